pub mod Inner
pub mod Road
