-- Annex A
pub mod Mend
