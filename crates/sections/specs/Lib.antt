-- Sections in a row: their bits, and calls of `write`
pub mod Stream
pub mod Calls
-- what is read of a written Section
pub mod Laid
-- what is written grows at its end, and keeps the run rule
pub mod Grown
pub mod RuleHolds
