-- from step to step, from turn to turn, and the ends
pub mod Steps
pub mod Reaching
pub mod Ends
