pub mod Head
pub mod Message
pub mod Place
pub mod Reading
pub mod Refusal
pub mod ReplyText
