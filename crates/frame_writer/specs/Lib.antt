-- what writing a Data Frame answers and writes
pub mod Framing
-- contracts of private functions
pub mod Inner
