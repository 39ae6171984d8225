-- delay lines, step by step
pub mod Delay
pub mod Chain
-- and over time
pub mod Stream
