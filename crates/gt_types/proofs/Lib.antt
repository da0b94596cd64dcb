mod Examples
mod KeptLemmas
mod OutcomeLemmas
mod TextLemmas
