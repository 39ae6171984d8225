pub mod Fates
pub mod Times
