-- streams of frames, and lists of calls
pub mod Streams
pub mod Calls
-- document 01, "CIRC": the doubt mark
pub mod Doubt
-- document 02, §8: runs of lost frames
pub mod LostRun
-- what the laws need on their way
pub mod Inner
