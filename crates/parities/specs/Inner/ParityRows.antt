-- Two rows of parity under a matrix: each column with its two bytes is a codeword.
-- Assumes nothing.
use Rattle.std.specs.Prelude.{◌≡◌, List, [], ◌∷◌, ◌++◌, ℕ, ◌/◌, ◌<◌, length, get_or}
use Rattle.codeword.specs.Code.{Codeword}
use Rattle.sweep.specs.Columns.{column}

-- column k of all whole rows of w bytes
abbrev pub whole_column : ℕ → List ℕ → ℕ → List ℕ
whole_column w rows k = column w (length rows / w) rows k

-- p and q are the two rows of parity under rows of w bytes
pub record ParityRows (w : ℕ) (rows p q : List ℕ) : Type 0 where
  pub long_p : length p ≡ w
  pub long_q : length q ≡ w
  pub code : (k : ℕ) → k < w → Codeword 2 (whole_column w rows k ++ (get_or p k 0 ∷ get_or q k 0 ∷ []))
