-- a Section, and what writing its frames leaves
pub mod Section
pub mod Frames
-- contracts of private functions
pub mod Inner
