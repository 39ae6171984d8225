-- Laws about what specs/ChannelFrame.antt defines.
pub mod Merging
pub mod Own
