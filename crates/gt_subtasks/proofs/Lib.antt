mod Classes
mod Counting
mod IndexLemmas
mod KeptLemmas
mod NumberLemmas
mod PlaceLemmas
mod TallyLemmas
