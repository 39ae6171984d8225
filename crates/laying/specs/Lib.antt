-- two slices laid into a third
pub mod Both
