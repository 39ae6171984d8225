-- `exchanged_frame` meets its contract: after `pair` turns the first `pair` pairs are those of the list `exchanged` (`Exchanging`).
-- Assumes nothing.
use Prim.Native.Nat.{◌*◌}
use Rattle.outcome.specs.Buffer.{Filling}
use Rattle.pair_exchange.specs.Exchange.{exchanged}
use Rattle.pair_exchange.proofs.exchanged_frame.Given as goal

abbrev pub invariant-loop-pair : goal.invariant-loop-pair
invariant-loop-pair l = Filling l.initial.frame (exchanged l.bytes) (2 * l.pair) l.frame
