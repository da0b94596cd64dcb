mod CommandLemmas
mod FrontLemmas
mod LineTextLemmas
mod ListLemmas
mod ReadingLemmas
