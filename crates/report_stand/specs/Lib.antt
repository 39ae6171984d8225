-- document 01, the report
pub mod Standing
