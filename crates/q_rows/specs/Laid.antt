-- The Q codewords as the columns of a matrix (Annex A): 43 rows of 52 bytes, and bytes 2,248 to 2,351 as the last two.
-- Assumes nothing.
use Rattle.std.specs.Prelude.{◌≡◌, Bool, cond, ◌&&◌, List, ◌++◌, ℕ, eqb, length, drop}
use Rattle.gathering.specs.Rows.{q_rows}
pub mod WaysOut

abbrev pub all_rows : List ℕ → List ℕ
all_rows s = q_rows s ++ drop 2248 s

-- the answer r of laying the rows of s, and what it leaves of `old`: between other lengths nothing changes
pub record Laid (s old : List ℕ) (r : Bool) (new : List ℕ) : Type 0 where
  pub answer : r ≡ eqb (length s) 2352 && eqb (length old) 2340
  pub rows : new ≡ cond r (all_rows s) old
