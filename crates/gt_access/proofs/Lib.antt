mod BestLemmas
mod FiledLemmas
mod FrontLemmas
mod LastLemmas
mod NumberLemmas
mod TableLemmas
