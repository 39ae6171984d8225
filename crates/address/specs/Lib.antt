-- the address of a Sector (14.2)
pub mod Address
-- which of two comes first
pub mod Order
