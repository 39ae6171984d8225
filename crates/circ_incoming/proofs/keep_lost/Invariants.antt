-- `circ_incoming::keep_lost` meets its contract: before i the marks are those that are kept (`Kept`).
-- Assumes nothing.
use Rattle.circ_incoming.proofs.Keeping.{Kept}
use Rattle.circ_incoming.proofs.keep_lost.Given as goal

abbrev pub invariant-loop-mark : goal.invariant-loop-mark
invariant-loop-mark l = Kept l.initial.marks l.mark-index l.marks
