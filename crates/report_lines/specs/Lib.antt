-- the lines of Sectors, one after the other
pub mod Told
-- contracts of private functions
pub mod Inner
