-- The check polynomial of clause 14.3. A polynomial is the list of its coefficients, the highest power first (division/Polynomial).
-- Assumes nothing.
use Rattle.std.specs.Prelude.{List, [], ◌∷◌, ℕ}
use Rattle.division.specs.Polynomial.{powers}
pub mod Lengths
pub mod Divisor

-- x^32 + x^31 + x^16 + x^15 + x^4 + x^3 + x + 1
unfoldable pub divisor : List ℕ
divisor = powers 33 (32 ∷ 31 ∷ 16 ∷ 15 ∷ 4 ∷ 3 ∷ 1 ∷ 0 ∷ [])

-- its factors as clause 14.3 has them, x^16 + x^15 + x^2 + 1 and x^16 + x^2 + x + 1
abbrev pub factor₁ : List ℕ
factor₁ = powers 17 (16 ∷ 15 ∷ 2 ∷ 0 ∷ [])

abbrev pub factor₂ : List ℕ
factor₂ = powers 17 (16 ∷ 2 ∷ 1 ∷ 0 ∷ [])
