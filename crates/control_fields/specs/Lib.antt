-- the fields that ten bytes can stand for
pub mod Found
