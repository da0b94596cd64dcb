pub mod Suite
