-- `xor::add` meets its contract: the loop fills `to` with the list `added` (`Fill`), and a place that is not written yet is as it was.
-- Assumes nothing.
use Rattle.outcome.specs.Buffer.{Filling}
use Rattle.xor.specs.Added.{added}
use Rattle.xor.proofs.add.Given as goal

abbrev pub invariant-loop-i : goal.invariant-loop-i
invariant-loop-i l = Filling l.initial.to (added l.initial.to l.what) l.i l.to
