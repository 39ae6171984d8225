-- counting the places in which two lists differ
pub mod Counting
