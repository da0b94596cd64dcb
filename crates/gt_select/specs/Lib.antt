pub mod Filter
pub mod Pattern
pub mod Reached
