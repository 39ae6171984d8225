-- Laws about what specs/Laid.antt defines.
pub mod Scratch
pub mod ThereAndBack
