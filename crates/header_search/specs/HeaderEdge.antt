-- A Sync Header edge by edge (document 02, §5): two runs of 11 bits.
-- Assumes nothing.
use Rattle.std.specs.Prelude.{Bool, ◌&&◌, List, ℕ, ◌+◌, ◌-◌, eqb, ltb, length}
use Rattle.outcome.specs.First.{first_below}
use Rattle.legal_runs.specs.EdgeBits.{edge_bits}
pub mod Begins
pub mod Stands

-- edge k is followed by two runs of 11 bits
unfoldable pub begins : List ℕ → ℕ → Bool
begins ds k = eqb (edge_bits ds k) 11 && eqb (edge_bits ds (k + 1)) 11

-- a Sync Header begins there: a third run behind the two shows its last ZERO
unfoldable pub stands : List ℕ → ℕ → Bool
stands ds k = ltb (k + 2) (length ds) && begins ds k

-- the first such edge from edge `from` on, or where the edges with three runs behind them end
unfoldable pub header_edge : List ℕ → ℕ → ℕ
header_edge ds from = from + first_below (λ i. begins ds (from + i)) (length ds - 2 - from)
