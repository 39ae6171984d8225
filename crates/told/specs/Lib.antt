-- an answer as a number and values for other languages
pub mod Told
