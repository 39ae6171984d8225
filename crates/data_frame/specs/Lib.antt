-- ISO/IEC 16449, clause 16
pub mod DataFrame
