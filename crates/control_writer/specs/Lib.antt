-- what writing answers and leaves
pub mod Writing
-- the q-channel in bytes
pub mod Inner
