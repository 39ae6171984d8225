-- Annex A
pub mod Laid
