-- The runs of a capture, and the bits from an edge to the next (document 02, §5).
-- Assumes nothing.
use Rattle.std.specs.Prelude.{cond, List, ℕ, ltb, length, get_or}
use Rattle.captures.specs.Counts.{counts_of, runs_of, bits_in}
pub mod There
pub mod AllLegal

abbrev pub runs : List ℕ → List ℕ
runs capture = runs_of (counts_of capture)

-- the bits from edge i to the next; the last edge is a bit of its own
unfoldable pub edge_bits : List ℕ → ℕ → ℕ
edge_bits ds i = cond (ltb i (length ds)) (bits_in (get_or ds i 0)) 1
