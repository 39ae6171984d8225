-- bits beside the p bit
pub mod QBits
