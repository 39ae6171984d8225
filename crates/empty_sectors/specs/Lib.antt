-- the run of the program
pub mod Run
-- contracts of private functions
pub mod Inner
