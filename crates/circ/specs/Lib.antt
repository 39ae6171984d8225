-- clause 17, Annex C, figure C.4
pub mod Rows
pub mod Chains
-- Annex C.7
pub mod Codes
pub mod Marks
-- document 02, §7
pub mod Marked
-- a step, with document 01's refusals
pub mod Step
pub mod Steps
pub mod Refusals
-- document 02, §9
pub mod Rings
