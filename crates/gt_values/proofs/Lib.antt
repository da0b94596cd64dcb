mod DateLemmas
mod DecimalLemmas
mod FormLemmas
mod IdLemmas
mod MadeLemmas
mod PrintLemmas
mod ProfileLemmas
