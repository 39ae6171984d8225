-- the Q codewords side by side
pub mod Rows
-- contracts of private functions
pub mod Inner
