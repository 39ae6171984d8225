-- Contracts of private functions.
-- Assumes nothing.
pub mod Count
pub mod Read
