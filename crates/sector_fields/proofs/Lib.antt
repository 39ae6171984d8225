-- a Sector protected, and the steps that do it
pub mod Protects
pub mod Protecting
