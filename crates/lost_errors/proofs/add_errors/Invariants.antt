-- `lost_errors::add_errors` meets its contract: the errors of the first i places are added (`Adding`).
-- Assumes nothing.
use Rattle.lost_errors.proofs.Adding.{Adding}
use Rattle.lost_errors.proofs.add_errors.Given as goal

abbrev pub invariant-loop-i : goal.invariant-loop-i
invariant-loop-i l = Adding l.marks l.s l.initial.word l.i l.word
