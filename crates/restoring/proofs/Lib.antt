-- the loop over all numbers
pub mod Reading
-- the ways out
pub mod WaysOut
