-- what carrying over answers and hands out
pub mod Carry
-- contracts of private functions
pub mod Inner
