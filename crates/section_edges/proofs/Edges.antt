-- Laws about what specs/Edges.antt defines.
pub mod Frames
pub mod Replayed
