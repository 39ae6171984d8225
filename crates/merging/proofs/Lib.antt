pub mod Chosen
pub mod Ready
