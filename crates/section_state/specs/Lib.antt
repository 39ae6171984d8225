-- what a Section writer carries from Section to Section
pub mod Carried
-- and the tally of one Section
pub mod Tallies
