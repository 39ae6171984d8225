-- One of the rows into which the Q codewords are gathered.
-- Assumes nothing.
use Rattle.std.specs.Prelude.{List, ℕ}
use Rattle.outcome.specs.Table.{tabulated}
use Rattle.rspc.specs.Words.{q_words}
use Rattle.gathering.specs.Rows.{q_byte}

unfoldable pub q_row : List ℕ → ℕ → List ℕ
q_row s m = tabulated (q_byte s m) 0 q_words
