-- the codewords of Annex A
pub mod Words
pub mod Either
-- what is done to a Sector in place: parity put in, and words mended
pub mod Place
pub mod Put
pub mod Pass
pub mod PassInPlace
-- how the code goes over them
pub mod Columns
