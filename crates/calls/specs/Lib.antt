-- one call with its state, and any list of calls
pub mod Step
pub mod Calls
