-- what is read of a Channel Frame, and what reading one answers
pub mod ChannelFrame
pub mod FrameRead
-- contracts of private functions
pub mod Inner
