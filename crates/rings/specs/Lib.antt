-- a ring, and rings in one store
pub mod Ring
pub mod Rings
-- a step of them
pub mod Swap
pub mod Stage
