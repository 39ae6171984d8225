-- Nothing is left of a polynomial exactly where it is the divisor times some polynomial. A polynomial with fewer coefficients than
-- the remainder is its own remainder (`remainder_short` of Division/Check), so that there only zeros leave nothing.
-- Assumes nothing.
use Rattle.std.specs.Prelude.{◌≡◌, List, ℕ}
use Rattle.division.specs.Polynomial.{Coefficients, product}
pub mod Zero

-- the divisor times a polynomial
pub record Multiple (d cs : List ℕ) : Type 0 where
  pub quotient : List ℕ
  pub coefs : Coefficients quotient
  pub is : cs ≡ product d quotient
