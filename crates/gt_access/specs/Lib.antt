pub mod Best
pub mod Filed
pub mod Indexed
pub mod Right
pub mod Rule
