-- Laws about what specs/Words.antt defines.
pub mod Parity
