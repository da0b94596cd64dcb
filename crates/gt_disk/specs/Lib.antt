pub mod Disk
pub mod Moments
pub mod TornWrites
pub mod Images
pub mod MemFile
pub mod Suite
