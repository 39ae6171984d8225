-- what is tried of some bytes, and that in place
pub mod Tried
pub mod Freshen
