mod Marks
mod Decoded
