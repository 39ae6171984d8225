-- Annex A.3, Annex C.7
pub mod Field
pub mod Inverse
