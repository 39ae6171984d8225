-- What is found for a word of C1 or C2 and its marks, however many bytes and marks there are (document 02, §7). Where a mark stands for each byte, and the word
-- is no longer than the code's words may be, this is circ/Codes `found_for` (`found_for_lem`).
-- Assumes nothing.
use Rattle.std.specs.Prelude.{◌≡◌, cond, List, ℕ, eqb, leb}
use Rattle.std.proofs.Math.Option.{Option, none}
use Rattle.codeword.specs.Code.{weight}
use Rattle.codeword.specs.Nearest.{nearest, found_or}
use Rattle.filling.specs.Fill.{filled}
use Rattle.circ.specs.Codes.{mark_of}
pub mod Found

-- without marks the codeword near the word; with at most `most` marks the word filled, if it can be; with more none
unfoldable pub found : ℕ → List ℕ → List ℕ → Option (List ℕ)
found most m w = cond (eqb (weight m) 0) (nearest 4 w) (cond (leb (weight m) most) (filled m w) none)

-- what is handed on, and its mark
pub record HandsOn (most : ℕ) (m w out : List ℕ) (mark : ℕ) : Type 0 where
  pub leaves : out ≡ found_or w (found most m w)
  pub answer : mark ≡ mark_of (found most m w)
