-- `report_lines::tell_each` meets its contract. The invariant: the lines of i Sectors went out (`Telling`); a line that went out is
-- one more (`telling_more`), and one that did not is the last (`telling_ends`).
-- Assumes nothing.
use Rattle.report_lines.proofs.Telling.{Telling}
use Rattle.report_lines.proofs.tell_each.Given as goal

abbrev pub invariant-loop-i : goal.invariant-loop-i
invariant-loop-i g l = Telling l.n l.received l.fn.counts l.i l.progress
