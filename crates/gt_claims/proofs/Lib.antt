mod EntryLemmas
mod LeastLemmas
