mod BodyLemmas
mod CountLemmas
mod LawLemmas
mod PlaceLemmas
