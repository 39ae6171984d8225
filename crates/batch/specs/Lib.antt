-- what repair of many Sectors answers and hands out
pub mod Sectors
pub mod Batch
-- contracts of private functions
pub mod Inner
