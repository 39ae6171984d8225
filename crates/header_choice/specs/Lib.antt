-- what is chosen before a Sync Header
pub mod HeaderChoice
-- contracts of private functions
pub mod Inner
