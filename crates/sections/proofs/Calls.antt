-- Laws about what specs/Calls.antt defines.
pub mod Answers
pub mod Back
pub mod Streams
