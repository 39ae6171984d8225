-- Laws about what specs/LostRun.antt defines.
pub mod Any
pub mod Calls
pub mod Public
pub mod Streams
