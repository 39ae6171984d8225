pub mod Repairing
pub mod WaysOut
