-- a byte noted, the list as it grows, and the ways out
pub mod Noting
pub mod Growing
