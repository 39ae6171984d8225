-- the steps that make the candidate
pub mod Steps
