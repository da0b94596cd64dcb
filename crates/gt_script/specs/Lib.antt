pub mod CommandLine
pub mod Reading
pub mod Script
pub mod TextFacts
