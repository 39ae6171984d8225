-- document 01, "The report"
pub mod Characters
pub mod Report
-- a line in its buffer
pub mod Line
