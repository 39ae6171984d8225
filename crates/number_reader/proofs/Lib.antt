-- the number at a place
pub mod NumberShown
