-- what is read of a Section, and what reading answers
pub mod Reading
pub mod ReadSay
-- contracts of private functions
pub mod Inner
