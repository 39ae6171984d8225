-- Annex B
pub mod Sequence
