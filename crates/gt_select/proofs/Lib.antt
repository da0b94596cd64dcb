mod CharLemmas
mod ClassLemmas
mod FilterLemmas
mod MatchLemmas
mod PassedLemmas
