-- polynomials with coefficients modulo 2
pub mod Polynomial
-- their division as on paper
pub mod Division
-- of what nothing is left
pub mod Multiple
