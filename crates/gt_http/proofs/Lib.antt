mod BodyLemmas
mod FieldLemmas
mod HeadLemmas
mod LineLemmas
mod MessageLemmas
mod PlaceLemmas
mod ReplyLemmas
