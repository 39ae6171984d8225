-- document 02, §5: a capture replayed into Channel Frames
pub mod Replay
