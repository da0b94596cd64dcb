mod DraftLemmas
mod NameLemmas
mod PathLemmas
mod PieceLemmas
