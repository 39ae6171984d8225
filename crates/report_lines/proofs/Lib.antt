-- the steps of a report, and the lines of a batch
pub mod Steps
pub mod Telling
