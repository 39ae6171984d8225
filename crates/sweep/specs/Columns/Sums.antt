-- A column's bytes and the sums of columns, place by place.
-- Assumes nothing.
use Rattle.std.specs.Prelude.{◌≡◌, List, ℕ, ◌+◌, ◌*◌, ◌<◌, length, get_or}
use Rattle.outcome.specs.Bytes.{Bytes}
use Rattle.outcome.specs.Table.Entries.{tabulated-at, length-tabulated, bytes_tabulated}
use Rattle.codeword.specs.Code.{sum}
use Rattle.sweep.specs.Columns.{column, column_sums}

-- a column of n rows has n bytes
pub length-column : (w n : ℕ) (s : List ℕ) (k : ℕ) → length (column w n s k) ≡ n
unfolding column
length-column w n s k = length-tabulated (λ r. get_or s (w * r + k) 0) 0 n

-- and these are they
pub column-at : (w n : ℕ) (s : List ℕ) (k r : ℕ) → r < n → get_or (column w n s k) r 0 ≡ get_or s (w * r + k) 0
unfolding column
column-at w n s k r h = tabulated-at (λ r. get_or s (w * r + k) 0) n r h

-- of bytes it is a word of bytes
pub bytes_column : (w n : ℕ) (s : List ℕ) (k : ℕ) → Bytes s → Bytes (column w n s k)
unfolding column
bytes_column w n s k h = bytes_tabulated (λ r. get_or s (w * r + k) 0) 0 n (λ r. h (w * r + k))

-- there is a sum for each column
pub length-sums : (j w n : ℕ) (s : List ℕ) → length (column_sums j w n s) ≡ w
unfolding column_sums
length-sums j w n s = length-tabulated (λ k. sum j (column w n s k)) 0 w

-- and it is this
pub sums_at : (j w n : ℕ) (s : List ℕ) (k : ℕ) → k < w → get_or (column_sums j w n s) k 0 ≡ sum j (column w n s k)
unfolding column_sums
sums_at j w n s k h = tabulated-at (λ k. sum j (column w n s k)) w k h
