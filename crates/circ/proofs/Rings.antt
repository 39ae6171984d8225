-- Laws about what specs/Rings.antt defines.
pub mod Alike
pub mod Known
