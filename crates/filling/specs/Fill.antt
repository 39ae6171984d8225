-- What `fill` makes of a word and its marks (document 02, §7).
-- Assumes nothing.
use Rattle.std.specs.Prelude.{◌≡◌, Bool, cond, ◌&&◌, List, ℕ, eqb, leb, length}
use Rattle.std.proofs.Math.Option.{Option, none}
use Rattle.codeword.specs.Code.{weight}
use Rattle.agreeing.specs.Agreeing.{agreeing}
use Rattle.codeword.specs.Nearest.{found_or, is_found}
pub mod WaysOut

-- whether the word can be filled: it has a mark for each byte, at most 255 bytes, and at most four are marked
unfoldable pub within : List ℕ → List ℕ → Bool
within m w = eqb (length m) (length w) && (leb (length w) 255 && leb (weight m) 4)

-- the codeword that agrees with it, where it can be filled and there is one
unfoldable pub filled : List ℕ → List ℕ → Option (List ℕ)
filled m w = cond (within m w) (agreeing m w) none

-- what is answered and left
pub record Fills (m w out : List ℕ) (r : Bool) : Type 0 where
  pub answer : r ≡ is_found (filled m w)
  pub leaves : out ≡ found_or w (filled m w)
