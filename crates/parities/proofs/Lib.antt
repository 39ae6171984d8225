-- sums that become parity, and parity laid into a Sector
pub mod Parting
pub mod Putting
