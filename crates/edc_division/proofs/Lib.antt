pub mod Passed
pub mod Digits
