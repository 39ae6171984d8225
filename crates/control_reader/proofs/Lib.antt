-- eight q bits, one a turn
pub mod Gathering
-- two bytes of CRC
pub mod Crcs
-- the ways out
pub mod WaysOut
