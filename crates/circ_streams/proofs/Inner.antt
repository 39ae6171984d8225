-- Laws about what specs/Inner.antt defines.
pub mod AsWritten
pub mod CallsWithin
pub mod Mended
pub mod ThereAndBack
pub mod TooLong
pub mod Within
