-- the loop over all counts, and the ways out
pub mod Writing
