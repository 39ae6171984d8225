-- the times in a Section's Control bytes
pub mod Elapsed
