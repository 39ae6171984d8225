-- Laws about what specs/Restored.antt defines.
pub mod Table
