-- two slices by `==`
pub mod Comparing
-- what an answer of the writer says
pub mod Made
