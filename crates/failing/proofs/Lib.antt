-- the search for the first codeword that fails
pub mod Search
