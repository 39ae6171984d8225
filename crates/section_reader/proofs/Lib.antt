pub mod FrameTaken
pub mod FramesRead
pub mod WaysOut
