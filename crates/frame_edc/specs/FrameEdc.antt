-- The EDC of a Data Frame (ISO/IEC 16449, 16.4). The bytes are a single bit field, the most significant bit of the first byte first and of the highest power;
-- they are divided by the check polynomial as on paper (division/Division), and the EDC is what is left.
-- Assumes nothing.
use Rattle.std.specs.Prelude.{◌≡◌, List, [], ◌∷◌, ℕ, replicate}
use Rattle.bits.specs.Bits.{unpack, pack}
use Rattle.division.specs.Polynomial.{powers}
use Rattle.division.specs.Division as by
use Rattle.division.specs.Division.{check}
pub mod Right

-- G(x) = x^32 + x^31 + x^4 + 1
abbrev pub powers_of_g : List ℕ
powers_of_g = 32 ∷ 31 ∷ 4 ∷ 0 ∷ []

unfoldable pub divisor : List ℕ
divisor = powers 33 powers_of_g

-- the remainder's 32 coefficients, that of x^31 first
unfoldable pub remainder : List ℕ → List ℕ
remainder bytes = by.remainder divisor (unpack bytes)

-- the bytes, with the EDC field the last of them, are divisible
abbrev pub Divisible : List ℕ → Type 0
Divisible bytes = remainder bytes ≡ replicate 32 0

-- the four bytes of the EDC field that follows some bytes: what is left of I(x), which has 32 coefficients 0 in the EDC's place
unfoldable pub edc : List ℕ → List ℕ
edc bytes = pack 4 (check divisor (unpack bytes))
