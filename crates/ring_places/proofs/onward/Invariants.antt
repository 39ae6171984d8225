-- `ring_places::onward` meets its contract: the places that have gone on, and those that are left.
-- Assumes nothing.
use mathlib.Core.Path.{◌≡◌}
use mathlib.Core.List.{◌++◌}
use lib.ListN.{length, take, drop}
use Rattle.rings.specs.Rings.{onward}
use Rattle.ring_places.proofs.onward.Given as goal

abbrev pub invariant-loop-k : goal.invariant-loop-k
invariant-loop-k l = (length l.places ≡ length l.initial.places) × (onward l.waits l.initial.places ≡ take l.k l.places ++ onward (drop l.k l.waits) (drop l.k l.places))
