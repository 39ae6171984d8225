-- `keeping::put_runs` meets its contract: the loop's invariant is that the first i counts are in the list (`Writing`).
-- Assumes nothing.
use Rattle.keeping.proofs.Writing.{Writing}
use Rattle.keeping.proofs.put_runs.Given as goal

abbrev pub invariant-loop-i : goal.invariant-loop-i
invariant-loop-i l = Writing l.capture l.list l.last l.used l.i
