-- clause 14
pub mod Front
pub mod Protect
