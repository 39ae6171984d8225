-- what the writer answers and writes
pub mod Write
-- contracts of private functions
pub mod Inner
