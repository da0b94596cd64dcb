mod Overlaid
mod Replay
mod Prose
mod KeptLemmas
mod MemCalls
