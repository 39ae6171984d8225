-- a Sector in a buffer, with the count of its changes
pub mod HandedOut
