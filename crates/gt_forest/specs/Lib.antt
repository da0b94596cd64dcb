pub mod Tree
pub mod Listing
pub mod Answers
pub mod Calls
pub mod Words
pub mod Laws
pub mod Rows
pub mod MemState
