-- document 02, §5: the counts of a capture and their distances, numbers in groups of seven bits, and captures kept as lists of runs
pub mod Counts
pub mod Number
pub mod Kept
