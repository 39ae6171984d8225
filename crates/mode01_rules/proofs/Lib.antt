-- the ways out
pub mod Rules
