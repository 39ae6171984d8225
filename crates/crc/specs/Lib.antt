-- clause 22.3.6
pub mod Crc
-- the code's register
pub mod Inner
