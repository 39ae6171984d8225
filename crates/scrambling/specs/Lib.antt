-- clause 15
pub mod Scramble
