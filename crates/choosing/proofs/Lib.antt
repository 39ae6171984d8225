pub mod WordCandidates
pub mod FrameLoop
