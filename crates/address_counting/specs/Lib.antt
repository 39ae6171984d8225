-- the next address
pub mod Count
