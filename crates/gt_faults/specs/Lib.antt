pub mod Faults
