-- document 02, §5: what replaying a capture answers
pub mod Answers
-- and what it answers from an edge on
pub mod FromEdge
-- contracts of private functions
pub mod Inner
