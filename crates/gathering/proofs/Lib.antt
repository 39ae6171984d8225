-- the rows, filled one after the other
pub mod Gathering
