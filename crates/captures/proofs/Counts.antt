-- Laws about what specs/Counts.antt defines.
pub mod Places
pub mod Round
