-- `carrying::write_each` meets its contract. The invariant: i Sectors are written, and `time` is the next address (`Writing`); a turn is
-- `writing_more`.
-- Assumes nothing.
use Rattle.carrying.proofs.Writing.{Writing}
use Rattle.carrying.proofs.write_each.Given as goal

abbrev pub invariant-loop-i : goal.invariant-loop-i
invariant-loop-i l = Writing l.n l.frames l.initial.time l.i l.time l.out
