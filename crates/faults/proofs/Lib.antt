pub mod Search
pub mod Faults
