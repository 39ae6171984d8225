-- clause 16
pub mod Frames
