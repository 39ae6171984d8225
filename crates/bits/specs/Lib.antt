-- bits, the most significant first
pub mod Bits
-- lists of the bits 0 and 1
pub mod Binary
