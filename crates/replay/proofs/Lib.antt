-- the bits from an edge on
pub mod Counting
-- an edge with its ZEROs
pub mod Front
-- the bits of the frames, edge by edge
pub mod Drawing
-- bits in bytes, and the bytes of frames
pub mod Packing
-- the ways out
pub mod WaysOut
