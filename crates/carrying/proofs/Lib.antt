pub mod Writing
pub mod WaysOut
