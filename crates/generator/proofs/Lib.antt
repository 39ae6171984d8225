pub mod Divided
pub mod Answers
