pub mod Laws
pub mod Lists
pub mod Members
pub mod Place
pub mod Query
pub mod Reading
pub mod Steps
pub mod Values
