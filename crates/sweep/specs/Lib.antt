-- words side by side, and their sums
pub mod Columns
-- contracts of private functions
pub mod Inner
