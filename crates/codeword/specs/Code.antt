-- Codewords over the field: P and Q of a Sector with two sums (Annex A), C1 and C2 of CIRC with four (Annex C.7).
-- Assumes nothing.
use Rattle.std.specs.Prelude.{◌≡◌, cond, List, [], ◌∷◌, ℕ, ◌+◌, ◌*◌, ◌≤◌, ◌<◌, eqb, length}
use Rattle.std.specs.Int.Bits.{bit_xor}
use Rattle.outcome.specs.Bytes.{Bytes}
use Rattle.outcome.specs.Table.{tabulated}
use Rattle.field.specs.Field.{power, mul}
pub mod Sums
pub mod Changes
pub mod OneSumLess
pub mod Distance
pub mod NearOne

-- the sum of a word of k bytes with byte i times α^(j(k-1-i)): k-1-i bytes come after byte i
unfoldable pub sum : ℕ → List ℕ → ℕ
sum j [] = 0
sum j (b ∷ w) = bit_xor (mul b (power (j * length w))) (sum j w)

-- its first J sums, from j = 0 on
abbrev pub sums : ℕ → List ℕ → List ℕ
sums J w = tabulated (λ j. sum j w) 0 J

-- a codeword: its first J sums are all 0
abbrev pub Codeword : ℕ → List ℕ → Type 0
Codeword J w = (j : ℕ) → j < J → sum j w ≡ 0

-- in how many places two words of one length differ
unfoldable pub changes : List ℕ → List ℕ → ℕ
changes [] ys = 0
changes (x ∷ xs) [] = 0
changes (x ∷ xs) (y ∷ ys) = cond (eqb x y) 0 1 + changes xs ys

-- how many bytes of a word are not 0
unfoldable pub weight : List ℕ → ℕ
weight [] = 0
weight (x ∷ w) = cond (eqb x 0) 0 1 + weight w

-- c is a codeword of w's length that differs from w in at most one byte
pub record Near (J : ℕ) (w c : List ℕ) : Type 0 where
  pub long : length c ≡ length w
  pub bytes : Bytes c
  pub close : changes w c ≤ 1
  pub code : Codeword J c
