pub mod Header
pub mod Framing
pub mod ChannelFrame
