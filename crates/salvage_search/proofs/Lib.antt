-- the search over the passes
pub mod Searching
