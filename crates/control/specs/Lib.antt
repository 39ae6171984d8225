-- clause 22: what is allowed, and the bits
pub mod Fields
pub mod Channels
-- the fields as numbers
pub mod Values
-- the fields in bytes
pub mod FieldBytes
-- what else the code goes by
pub mod Inner
