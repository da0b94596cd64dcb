pub mod Draft
pub mod Name
pub mod Path
pub mod PathText
