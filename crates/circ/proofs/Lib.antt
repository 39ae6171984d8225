pub mod Codes
pub mod Rings
