-- twelve bytes compared
pub mod Twelve
