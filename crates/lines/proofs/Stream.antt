-- Laws about what specs/Stream.antt defines.
pub mod Beside
pub mod Rows
pub mod Series
