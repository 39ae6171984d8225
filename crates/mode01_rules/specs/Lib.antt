-- clause 14
pub mod Rules
