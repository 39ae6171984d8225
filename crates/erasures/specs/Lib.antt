-- document 02, §7
pub mod Agrees
pub mod Errors
