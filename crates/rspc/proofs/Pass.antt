-- Laws about what specs/Pass.antt defines.
pub mod Exists
pub mod One
