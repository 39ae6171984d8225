-- one row more, and the pass over all of them
pub mod Rows
pub mod Sweeping
