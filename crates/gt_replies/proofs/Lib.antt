mod DocumentLemmas
mod OrderLemmas
mod SpelledLemmas
mod TableLemmas
