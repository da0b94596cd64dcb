mod Examples
mod HistoryLemmas
mod StayingLemmas
