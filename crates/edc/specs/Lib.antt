-- clause 14.3
pub mod Bits
pub mod Polynomial
pub mod Multiple
pub mod Edc
-- the register of the division and the rows of its table
pub mod Register
pub mod Rows
