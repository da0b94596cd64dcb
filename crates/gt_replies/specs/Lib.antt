pub mod Codes
pub mod Documents
pub mod Members
pub mod Order
pub mod ReplyText
pub mod Spelled
pub mod TaskDocument
pub mod Words
