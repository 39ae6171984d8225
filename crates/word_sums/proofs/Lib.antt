-- all sums byte by byte
pub mod Horner
