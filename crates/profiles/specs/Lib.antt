-- what the choice needs to know of a word
pub mod Profiles
