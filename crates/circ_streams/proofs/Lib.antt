pub mod Calls
pub mod Inner
pub mod LostRun
pub mod Streams
