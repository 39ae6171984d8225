-- what reading answers
pub mod Reading
-- the code's order
pub mod Inner
