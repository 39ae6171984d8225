-- document 02, §5: Sections turned into edges, which replaying gives back
pub mod Edges
