-- Bytes that are too few are not Sync.
-- Assumes nothing.
use Rattle.std.specs.Prelude.{◌≡◌, false, List, ℕ, ◌+◌, ◌<◌, length, take, drop}
use Rattle.std.proofs.Common.{arith, length-take, length-drop}
use Rattle.lists.proofs.Same.Equal.{unlike_lengths}
use Rattle.sector.specs.Layout.{sync}
use Rattle.pair_exchange.specs.Exchange.{exchanged}
use Rattle.sync_bytes.specs.SyncAt.{sync_at}

pub too_few : (frames : List ℕ) (p : ℕ) → length frames < p + 12 → sync_at frames p ≡ false
unfolding sync_at
too_few frames p h =
    unlike_lengths (take 12 (drop p frames)) (exchanged sync) (λ e. omega (arith, length-take 12 (drop p frames), length-drop p frames))
