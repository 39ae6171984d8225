-- the run of a report
pub mod Run
