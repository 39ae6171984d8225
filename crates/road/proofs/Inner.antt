-- Laws about what specs/Inner.antt defines.
pub mod Places
