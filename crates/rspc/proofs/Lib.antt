pub mod Either
pub mod Pass
pub mod Put
pub mod Words
