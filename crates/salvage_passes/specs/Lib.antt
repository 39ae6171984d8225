-- document 02, §10
pub mod Passes
pub mod Tries
