pub mod Counts
pub mod Kept
