-- Laws about what specs/Chain.antt defines.
pub mod Streams
pub mod Zeros
