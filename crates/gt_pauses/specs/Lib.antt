pub mod Indexed
pub mod Paused
pub mod Rule
