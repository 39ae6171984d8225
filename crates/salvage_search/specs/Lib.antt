-- document 02, §10
pub mod Search
