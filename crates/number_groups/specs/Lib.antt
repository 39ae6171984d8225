-- document 02, §5
pub mod Put
