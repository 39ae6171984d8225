-- what a verdict says
pub mod Verdicts
-- the parity that is told is the only one
pub mod Parities
