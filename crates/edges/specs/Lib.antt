-- document 02, §5: what stands at an edge of a capture
pub mod Steps
