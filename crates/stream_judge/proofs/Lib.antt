pub mod Tests
pub mod Passes
