-- fields that a caller in another language gives
pub mod Given
