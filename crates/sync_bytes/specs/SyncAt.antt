-- Sync as it stands in F1-frames (clause 16), the bytes of each pair exchanged.
-- Assumes nothing.
use Rattle.std.specs.Prelude.{Bool, List, ℕ, take, drop}
use Rattle.lists.specs.Same.{same}
use Rattle.sector.specs.Layout.{sync}
use Rattle.pair_exchange.specs.Exchange.{exchanged}
pub mod TooFew

-- the twelve bytes stand from byte p on; what reaches past the last byte isn't there
unfoldable pub sync_at : List ℕ → ℕ → Bool
sync_at frames p = same (take 12 (drop p frames)) (exchanged sync)
