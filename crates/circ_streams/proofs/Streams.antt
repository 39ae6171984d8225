-- Laws about what specs/Streams.antt defines.
pub mod Damage
pub mod Erased
pub mod ThereAndBack
