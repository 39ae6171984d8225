-- `finding::first_sync` meets its contract: after f turns none of the first f frames has Sync at some n (`Search`).
-- Assumes nothing.
use Prim.Native.Nat.{ℕ, ◌/◌}
use lib.Dec.{ltb}
use lib.ListN.{length}
use Rattle.alignment.specs.Found.{n_of}
use Rattle.finding.proofs.Search.{Passed}
use Rattle.finding.proofs.first_sync.Given as goal

abbrev pub invariant-loop-f : goal.invariant-loop-f
invariant-loop-f l = Passed (λ (g : ℕ). ltb (n_of l.frames g) 6) (length l.frames / 24) l.f
