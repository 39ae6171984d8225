-- a Sector laid out, protected and made
pub mod LayOut
pub mod Laying
pub mod Protects
pub mod Making
-- the ways out
pub mod WaysOut
