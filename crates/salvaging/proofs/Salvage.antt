-- Laws about what specs/Salvage.antt defines.
pub mod More
pub mod One
pub mod OnePass
