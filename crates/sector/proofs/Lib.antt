-- a field and the bytes in its place
pub mod Compared
