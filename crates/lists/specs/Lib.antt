-- lists compared, and one laid into another
pub mod Same
pub mod Laid
-- parts of lists
pub mod Agree
-- facts of the numbers below a bound
pub mod Each
