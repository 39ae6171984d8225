-- Laws about what specs/Put.antt defines.
pub mod One
