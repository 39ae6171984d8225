-- Sync set and Q worked out
pub mod Steps
