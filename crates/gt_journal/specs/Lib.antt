pub mod JournalText
pub mod Gates
pub mod Journal
pub mod Calls
pub mod Reading
pub mod Opening
pub mod Finding
