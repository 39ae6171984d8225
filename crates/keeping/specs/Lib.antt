-- document 02, §5: what keeping a capture answers
pub mod Answers
-- contracts of private functions
pub mod Inner
