-- How many runs there are, and the bits of each.
-- Assumes nothing.
use Rattle.std.specs.Prelude.{◌≡◌, List, ℕ, ◌-◌, ◌/◌, ◌<◌, length, get_or}
use Rattle.std.proofs.Common.{arith, lt-ltb}
use Rattle.captures.specs.Counts.{counts_of, bits_in}
use Rattle.captures.specs.Counts.Bytes.{length_counts}
use Rattle.captures.proofs.Counts.Places.{length_runs}
use Rattle.legal_runs.specs.EdgeBits.{runs, edge_bits}

-- one run less than edges
pub runs_long : (w : List ℕ) → length (runs w) ≡ length w / 2 - 1
runs_long w = omega (arith, length_runs (counts_of w), length_counts w)

pub bits-there : (ds : List ℕ) (i : ℕ) → i < length ds → edge_bits ds i ≡ bits_in (get_or ds i 0)
unfolding edge_bits
bits-there ds i h = simp (lt-ltb i (length ds) h)
