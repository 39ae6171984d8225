-- clause 14
pub mod Modes
