-- the codewords as columns, a codeword mended, and the pass over all of them
pub mod Rows
pub mod Mending
pub mod Passing
pub mod AllPassed
