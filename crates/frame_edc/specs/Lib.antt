-- ISO/IEC 16449, 16.4
pub mod FrameEdc
-- the code's table
pub mod Inner
