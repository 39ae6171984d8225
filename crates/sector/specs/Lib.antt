-- the fields of a Sector (clause 14)
pub mod Layout
-- what makes a Sector correct
pub mod Correct
