-- `put_exchanged` meets its contract: after `i` turns the first `i` frames are those of the list `exchanged` (`Exchanging`).
-- Assumes nothing.
use Prim.Native.Nat.{◌*◌}
use Rattle.outcome.specs.Buffer.{Filling}
use Rattle.pair_exchange.specs.Exchange.{exchanged}
use Rattle.pair_exchange.proofs.put_exchanged.Given as goal

abbrev pub invariant-loop-i : goal.invariant-loop-i
invariant-loop-i l = Filling l.initial.out (exchanged l.from) (24 * l.i) l.out
