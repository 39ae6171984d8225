-- `sweep::raise` meets its contract: the loop fills `to` with the list `risen` (`Fill`), and a place that is not written yet is as it was.
-- Assumes nothing.
use Rattle.outcome.specs.Buffer.{Filling}
use Rattle.sweep.specs.Inner.Rise.{risen}
use Rattle.sweep.proofs.raise.Given as goal

abbrev pub invariant-loop-k : goal.invariant-loop-k
invariant-loop-k l = Filling l.initial.to (risen l.initial.to l.row) l.k l.to
