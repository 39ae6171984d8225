-- A capture replayed from an edge on (document 02, §5): what a reader at that edge gives.
-- Assumes nothing.
use Rattle.std.specs.Prelude.{cond, List, ℕ, length, take, drop}
use Rattle.outcome.specs.Say.{Outcome}
use Rattle.merging.specs.Rule.{sync_header_bits, starts}
use Rattle.captures.specs.Counts.{counts_of}
use Rattle.replaying.specs.Replay.{channel_of, replaying_at}
use Rattle.replaying.specs.Replay.Sizes.{bits_of_runs}
use Rattle.legal_runs.specs.EdgeBits.{runs}
pub mod Header

-- bit p, where a Sync Header begins there, and else how many bits there are
abbrev pub header_at : List ℕ → ℕ → ℕ
header_at bits p = cond (starts sync_header_bits (drop p bits)) p (length bits)

-- the bit of edge k, where a Sync Header begins there
unfoldable pub header_bit : List ℕ → ℕ → ℕ
header_bit capture k = header_at (channel_of (counts_of capture)) (bits_of_runs (take k (runs capture)))

abbrev pub replaying_from : List ℕ → ℕ → List ℕ → Outcome
replaying_from capture k old = replaying_at capture (header_bit capture k) old
