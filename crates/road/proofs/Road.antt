-- Laws about what specs/Road.antt defines.
pub mod SectionsBack
pub mod ThereAndBack
