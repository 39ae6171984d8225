-- Annex C.7
pub mod Register
pub mod Rows
