-- What the laws of the road need on their way. No promise cites it.
-- Assumes nothing.
pub mod Lists
pub mod Fits
pub mod Made
