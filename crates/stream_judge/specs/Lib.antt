-- what judging Sections answers
pub mod Answers
-- contracts of private functions
pub mod Inner
