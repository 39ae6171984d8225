-- fields of bits as numbers, and fields of packed bits
pub mod Fields
pub mod Packed
