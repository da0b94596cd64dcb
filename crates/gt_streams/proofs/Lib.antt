mod ReadingLemmas
mod PieceLemmas
mod DoorLemmas
