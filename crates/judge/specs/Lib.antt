-- how a Sector is judged
pub mod Judging
