pub mod Changes
pub mod Found
pub mod Status
pub mod Tasks
