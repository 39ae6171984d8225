-- the edges at which no Sync Header begins
pub mod Searching
