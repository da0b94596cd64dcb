mod ApartLemmas
mod CheckLemmas
mod IndexLemmas
mod KeyLemmas
mod OwnerLemmas
mod PlaceLemmas
mod StepLemmas
mod TableLemmas
