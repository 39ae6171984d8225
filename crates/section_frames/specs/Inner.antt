-- What private functions ask and answer.
-- Assumes nothing.
pub mod BufferBits
pub mod FrameSteps
