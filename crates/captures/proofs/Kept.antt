-- Laws about what specs/Kept.antt defines.
pub mod Back
