-- the byte and the mark of a word
pub mod Marks
