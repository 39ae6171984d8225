-- the ways out
pub mod WaysOut
