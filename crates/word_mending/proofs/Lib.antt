-- what is done with a fault
pub mod Faults
