-- clause 17, Annex C, over rings
pub mod Encoding
