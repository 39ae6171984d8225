-- Laws about what specs/Either.antt defines.
pub mod Bytewise
