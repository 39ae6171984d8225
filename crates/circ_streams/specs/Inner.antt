-- What the laws above need on their way, over any two codes that are as `Coding` and `Correcting` ask. No promise cites it.
-- Assumes nothing.
pub mod Coding
pub mod Codes
pub mod Tables
pub mod Words
pub mod WriterWords
pub mod WriterRows
pub mod ReaderRows
pub mod Settled
-- with marks (document 02, §7)
pub mod MarkedStreams
pub mod MarkRows
pub mod MarkedRows
-- runs of lost frames (document 02, §8)
pub mod Weights
pub mod Spread
