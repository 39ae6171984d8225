-- Bytes are divisible exactly where their polynomial is the divisor times some polynomial.
-- Assumes nothing.
use Rattle.std.specs.Prelude.{List, ℕ}
use Rattle.division.specs.Multiple as by
use Rattle.edc.specs.Polynomial.{divisor}
pub mod Zero

-- the divisor times a polynomial
abbrev pub Multiple : List ℕ → Type 0
Multiple cs = by.Multiple divisor cs
