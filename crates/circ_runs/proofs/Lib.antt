pub mod Lent
pub mod Leaving
pub mod Running
