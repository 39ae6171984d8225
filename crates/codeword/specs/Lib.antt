-- Annex A, Annex C.7
pub mod Code
pub mod Nearest
pub mod Parity
-- the fault of a word by its sums
pub mod Fault
