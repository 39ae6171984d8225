-- The Q codewords without their parity as the columns of a matrix (Annex A): 43 rows of 52 bytes, row m with byte m of each codeword.
-- Column k is codeword k / 2 of the LSBs where k is even, of the MSBs where it is odd.
-- Assumes nothing.
use Rattle.std.specs.Prelude.{◌≡◌, Bool, cond, ◌&&◌, List, ℕ, ◌+◌, ◌*◌, ◌/◌, ◌%◌, eqb, length, get_or}
use Rattle.outcome.specs.Table.{tabulated}
use Rattle.rspc.specs.Words.{place, q_words}
pub mod Columns

-- the byte in row m and column k
abbrev pub q_byte : List ℕ → ℕ → ℕ → ℕ
q_byte s m k = get_or s (place (k % 2) ((44 * m + 43 * (k / 2)) % 1118)) 0

unfoldable pub q_rows : List ℕ → List ℕ
q_rows s = tabulated (λ i. q_byte s (i / q_words) (i % q_words)) 0 2236

-- the answer r of gathering the rows of s, and what it leaves of `old`: between other lengths nothing changes
pub record Gathered (s old : List ℕ) (r : Bool) (new : List ℕ) : Type 0 where
  pub answer : r ≡ eqb (length s) 2352 && eqb (length old) 2236
  pub rows : new ≡ cond r (q_rows s) old
