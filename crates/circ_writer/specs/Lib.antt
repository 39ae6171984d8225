-- document 01's numbers
pub mod Answers
-- contracts of private functions
pub mod Inner
