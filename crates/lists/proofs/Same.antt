-- Laws about what specs/Same.antt defines.
pub mod Equal
