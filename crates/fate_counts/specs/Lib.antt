-- document 01, "The report"
pub mod Counting
