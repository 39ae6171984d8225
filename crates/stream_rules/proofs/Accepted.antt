-- Laws about what specs/Accepted.antt defines.
pub mod Exactly
