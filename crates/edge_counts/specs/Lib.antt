-- what a count of a capture is
pub mod Found
