-- trials and passes
pub mod Trials
