-- the candidate and the rules that it must keep
pub mod Candidates
-- the ways out
pub mod WaysOut
