mod FilingLemmas
mod OrderLemmas
mod RiseLemmas
mod RunLemmas
