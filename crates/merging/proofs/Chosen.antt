-- Laws about what specs/Chosen.antt defines.
pub mod Fold
pub mod Stands
pub mod ThreeBits
