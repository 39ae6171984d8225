-- document 02, §5: the bits from an edge of a capture to the next
pub mod EdgeBits
