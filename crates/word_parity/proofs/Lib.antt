pub mod Solved
pub mod Pair
