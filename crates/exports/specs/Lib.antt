-- what a batch of Sectors tells
pub mod Batches
-- what each export promises allows one outcome
pub mod One
