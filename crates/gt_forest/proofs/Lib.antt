mod MapLemmas
mod TreeLemmas
mod ListingLemmas
mod CallLemmas
mod ForestLemmas
mod ImplLemmas
mod KeepLemmas
mod DecidedLemmas
