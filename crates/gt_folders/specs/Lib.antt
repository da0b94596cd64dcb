pub mod Folders
pub mod Slots
