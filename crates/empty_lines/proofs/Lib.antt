-- the ways out of `find`
pub mod WaysOut
