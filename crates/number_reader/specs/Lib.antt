-- the number at a place of a list
pub mod Leads
-- contracts of private functions
pub mod Inner
