pub mod Bits
pub mod Making
pub mod WaysOut
