mod FiledLemmas
mod FirstLemmas
mod NumberLemmas
