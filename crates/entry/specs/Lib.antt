-- document 01's numbers
pub mod Entry
