-- Laws about what specs/Codes.antt defines.
pub mod Treated
