-- The EDC (clause 14.3): the bits of bytes, the least significant bit of each byte first and the first bit the highest power, form
-- a polynomial, which is divided by the check polynomial as on paper (division/Division). No preset, no inversion.
-- Assumes nothing.
use Rattle.std.specs.Prelude.{◌≡◌, Bool, List, ℕ, replicate}
use Rattle.division.specs.Polynomial as zero
use Rattle.division.specs.Division as by
use Rattle.division.specs.Division.{check}
use Rattle.edc.specs.Bits.{bits, bytes_low_first}
use Rattle.edc.specs.Polynomial.{divisor}
pub mod Division
pub mod Zero
pub mod Right
pub mod Vector

-- the remainder's 32 coefficients, that of x^31 first and that of x^0 last
unfoldable pub remainder : List ℕ → List ℕ
remainder cs = by.remainder divisor cs

-- the bytes' polynomial is divisible by the check polynomial
abbrev pub Divisible : List ℕ → Type 0
Divisible bytes = remainder (bits bytes) ≡ replicate 32 0

-- The four bytes of the EDC field that follows some bytes: what is left of these with 32 coefficients 0 after them. So the
-- coefficient of x^0 is the most significant bit of the last byte.
unfoldable pub edc : List ℕ → List ℕ
edc bytes = bytes_low_first 4 (check divisor (bits bytes))

-- a test: every coefficient is 0
abbrev pub is_zero : List ℕ → Bool
is_zero cs = zero.is_zero cs
