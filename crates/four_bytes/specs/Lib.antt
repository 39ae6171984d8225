-- four bytes as one number
pub mod FourBytes
