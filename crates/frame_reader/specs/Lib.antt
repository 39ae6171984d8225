-- what reading a Data Frame answers and hands out
pub mod Reading
