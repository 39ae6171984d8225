-- `outcome::copy` meets its contract: the loop fills `to` with the list `from` (`Filled`).
-- Assumes nothing.
use Rattle.outcome.specs.Buffer.{Filling}
use Rattle.outcome.proofs.copy.Given as goal

abbrev pub invariant-loop-i : goal.invariant-loop-i
invariant-loop-i l = Filling l.initial.to l.from l.i l.to
