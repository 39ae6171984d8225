-- what is written of a number
pub mod Printed
pub mod Hex
