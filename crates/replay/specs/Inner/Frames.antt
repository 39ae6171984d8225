-- The bits from an edge on put into a buffer of zeros.
-- Assumes nothing.
use Rattle.std.specs.Prelude.{◌≡◌, List, ◌++◌, ℕ, ◌-◌, ◌≤◌, length, take, drop, replicate}
use Rattle.bits.specs.Bits.{unpack}
use Rattle.replaying.specs.Replay.{channel}
use Rattle.replaying.specs.Replay.Sizes.{Legal}
use Rattle.legal_runs.specs.EdgeBits.{runs}

-- a capture of legal runs with an edge k
pub record EdgeThere (capture : List ℕ) (k : ℕ) : Type 0 where
  pub short : length capture ≤ 65536
  pub legal : Legal (runs capture)
  pub within : k ≤ length (runs capture)

pub record FramesDue (capture : List ℕ) (k end : ℕ) (out : List ℕ) : Type 0 where
  pub there : EdgeThere capture k
  pub within : end ≤ length (channel (drop k (runs capture)))
  pub room : end ≤ 524288
  pub zeros : out ≡ replicate 65536 0

pub record FramesPut (capture : List ℕ) (k end : ℕ) (new : List ℕ) : Type 0 where
  pub long : length new ≡ 65536
  pub is : unpack new ≡ take end (channel (drop k (runs capture))) ++ replicate (524288 - end) 0
