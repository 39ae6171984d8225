-- clauses 15 to 20, one after the other
pub mod Road
-- what the laws need on their way
pub mod Inner
