-- what a copy hands out
pub mod Copied
