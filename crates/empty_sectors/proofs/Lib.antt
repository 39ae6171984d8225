-- from turn to turn
pub mod Turning
