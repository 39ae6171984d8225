-- document 02, §14: the faults of frames in a row
pub mod AllFaults
-- contracts of private functions
pub mod Inner
