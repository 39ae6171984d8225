-- document 02, §5: what restoring a capture answers
pub mod Answers
-- contracts of private functions
pub mod Inner
