-- the list of changes
pub mod Listed
-- contracts of private functions
pub mod Inner
