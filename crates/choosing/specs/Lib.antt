-- what is chosen
pub mod Choices
-- contracts of private functions
pub mod Inner
