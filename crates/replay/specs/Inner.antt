-- Contracts of private functions.
-- Assumes nothing.
pub mod Frames
