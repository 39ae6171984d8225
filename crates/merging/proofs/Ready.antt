-- Laws about what specs/Ready.antt defines.
pub mod Agrees
pub mod Apart
pub mod Taken
