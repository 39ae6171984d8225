-- `batch::repair_each` meets its contract. The invariant: i Sectors are repaired, and the rest of the buffer is as it was (`Repairing`);
-- a turn is `repairing_more`.
-- Assumes nothing.
use borrow.Author.Rules.{rules}
use Rattle.batch.proofs.Repairing.{repairing_none, repairing_more, repairing_all}
use Rattle.batch.proofs.repair_each.Goals as goal

pub loop-i-init : goal.loop-i-init
loop-i-init c = repairing_none _ _ _ _ c.no_fates-fates.ensures

pub loop-i-preserved : goal.loop-i-preserved
loop-i-preserved c =
    repairing_more c.loop-i.invariant c.requires c.loop-i-test.true c.repair.result _ c.repair.ensures (search rules)

pub shape_of-out : goal.shape_of-out
shape_of-out c = c.loop-i.invariant.as_long

pub returns : goal.returns
returns c = repairing_all c.loop-i.invariant c.requires c.loop-i-test.false
