pub mod Calls
pub mod Laid
