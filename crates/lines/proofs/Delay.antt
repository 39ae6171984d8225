-- Laws about what specs/Delay.antt defines.
pub mod Lengths
pub mod Quiet
