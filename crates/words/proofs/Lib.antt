pub mod Leads
pub mod Restored
