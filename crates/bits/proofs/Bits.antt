-- Laws about what specs/Bits.antt defines.
pub mod Fields
pub mod Packed
