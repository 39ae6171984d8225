-- document 01, "P and Q"
pub mod Candidate
