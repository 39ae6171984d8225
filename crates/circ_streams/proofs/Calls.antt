-- Laws about what specs/Calls.antt defines.
pub mod ThereAndBack
