-- document 02, §13
pub mod Listed
