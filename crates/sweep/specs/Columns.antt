-- Codewords that stand side by side: a matrix of bytes, row after row, whose columns are the words. Row r of P words is 86 bytes
-- of a Sector in a row (Annex A), so the sums of all of them are made in one pass over the rows.
-- Assumes nothing.
use Rattle.std.specs.Prelude.{◌≡◌, Bool, cond, ◌&&◌, List, ℕ, ◌+◌, ◌*◌, ◌/◌, eqb, ltb, length, get_or}
use Rattle.outcome.specs.Table.{tabulated}
use Rattle.codeword.specs.Code.{sum}
pub mod Fit
pub mod Sums

-- the n bytes in column k of rows of w bytes
unfoldable pub column : ℕ → ℕ → List ℕ → ℕ → List ℕ
column w n s k = tabulated (λ r. get_or s (w * r + k) 0) 0 n

-- sum j of each column of n rows
unfoldable pub column_sums : ℕ → ℕ → ℕ → List ℕ → List ℕ
column_sums j w n s = tabulated (λ k. sum j (column w n s k)) 0 w

-- sum j of each column of all whole rows
abbrev pub all_sums : ℕ → ℕ → List ℕ → List ℕ
all_sums j w s = column_sums j w (length s / w) s

-- two lists of sums are of one length, and not empty
abbrev pub fitting : List ℕ → List ℕ → Bool
fitting a b = eqb (length a) (length b) && ltb 0 (length a)

-- the answer r of a sweep over rows, and what it leaves in a and b
pub record Swept (rows a b : List ℕ) (r : Bool) (a' b' : List ℕ) : Type 0 where
  pub answer : r ≡ fitting a b
  pub first : a' ≡ cond r (all_sums 0 (length a) rows) a
  pub second : b' ≡ cond r (all_sums 1 (length a) rows) b
