pub mod WaysOut
