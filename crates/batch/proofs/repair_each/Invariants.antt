-- `batch::repair_each` meets its contract. The invariant: i Sectors are repaired, and the rest of the buffer is as it was (`Repairing`);
-- a turn is `repairing_more`.
-- Assumes nothing.
use Rattle.batch.proofs.Repairing.{Repairing}
use Rattle.batch.proofs.repair_each.Given as goal

abbrev pub invariant-loop-i : goal.invariant-loop-i
invariant-loop-i l = Repairing l.n l.received l.initial.out l.i l.fates l.out
