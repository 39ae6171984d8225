-- Laws about what specs/Told.antt defines.
pub mod One
pub mod Steps
