-- a run of calls over lent buffers, of the writer and of the reader
pub mod Runs
pub mod Coders
-- contracts of private functions
pub mod Inner
