-- The CRC field (clause 22.3.6): the check coefficients of some bits, the first the highest power, by the generating polynomial; inverted.
-- Assumes nothing.
use Rattle.std.specs.Prelude.{List, [], ◌∷◌, ℕ, ◌-◌}
use Rattle.division.specs.Polynomial.{powers}
use Rattle.division.specs.Division.{check}
pub mod Bits
pub mod Right
pub mod Vector

-- G(x) = x^16 + x^12 + x^5 + 1
abbrev pub check_polynomial : List ℕ
check_polynomial = powers 17 (16 ∷ 12 ∷ 5 ∷ 0 ∷ [])

-- each bit inverted
abbrev pub inverted : List ℕ → List ℕ
inverted [] = []
inverted (c ∷ cs) = (1 - c) ∷ inverted cs

-- the sixteen bits of the CRC field that follows some bits, the most significant first
unfoldable pub crc : List ℕ → List ℕ
crc bits = inverted (check check_polynomial bits)
