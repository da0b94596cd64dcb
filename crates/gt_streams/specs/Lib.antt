pub mod Streams
pub mod Reading
pub mod Memory
pub mod Suite
pub mod Doors
pub mod MemoryDoor
