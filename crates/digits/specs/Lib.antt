-- two decimal digits in a byte
pub mod Digits
