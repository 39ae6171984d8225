-- `legal_runs::first_illegal` meets its contract: the loop's invariant is that the first i runs are legal (`Passed`).
-- Assumes nothing.
use Rattle.legal_runs.proofs.Legality.{Passed}
use Rattle.legal_runs.proofs.first_illegal.Given as goal

abbrev pub invariant-loop-i : goal.invariant-loop-i
invariant-loop-i l = Passed l.capture l.i
