pub mod Counters
pub mod Growth
pub mod Item
pub mod Kept
pub mod Setting
pub mod Tally
pub mod TallySums
