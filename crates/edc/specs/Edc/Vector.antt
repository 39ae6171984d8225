-- The published check value of this CRC: of the nine bytes "123456789" the register is left with (6EC2EDC4).
-- Assumes nothing.
use Rattle.std.specs.Prelude.{◌≡◌, refl, List, [], ◌∷◌, ◌++◌, ℕ}
use Rattle.edc.specs.Bits.{bits, number_low_first}
use Rattle.edc.specs.Polynomial.{divisor}
use Rattle.division.specs.Division as by
use Rattle.division.specs.Division.{brought, divided, check}
use Rattle.edc.specs.Edc.{remainder, edc}

-- "123456789"
abbrev nine : List ℕ
nine = 49 ∷ 50 ∷ 51 ∷ 52 ∷ 53 ∷ 54 ∷ 55 ∷ 56 ∷ 57 ∷ []

-- followed by four zero bytes
pub check-number : number_low_first (remainder (bits (nine ++ (0 ∷ 0 ∷ 0 ∷ 0 ∷ [])))) ≡ 0x6EC2EDC4
unfolding remainder by.remainder divided brought divisor number_low_first
check-number = refl

pub check_bytes : edc nine ≡ 0xC4 ∷ 0xED ∷ 0xC2 ∷ 0x6E ∷ []
unfolding edc check by.remainder divided brought divisor number_low_first
check_bytes = refl
