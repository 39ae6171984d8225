-- what repair answers and hands out
pub mod Repair
