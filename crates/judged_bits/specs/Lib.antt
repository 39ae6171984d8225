-- the stream in bytes
pub mod Bytes
