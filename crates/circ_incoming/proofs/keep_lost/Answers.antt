-- `circ_incoming::keep_lost` meets its contract: before i the marks are those that are kept (`Kept`).
-- Assumes nothing.
use native.Mathlib.Omega.{arith}
use Rattle.outcome.specs.Buffer.Filled.{filling_long}
use Rattle.circ_incoming.proofs.Keeping.{kept-none, kept_more, kept_all}
use Rattle.circ_incoming.proofs.keep_lost.Goals as goal

pub loop-mark-init : goal.loop-mark-init
loop-mark-init c = kept-none _

pub loop-mark-preserved : goal.loop-mark-preserved
loop-mark-preserved c = kept_more c.loop-mark.invariant (omega (arith, c.loop-mark-test.true, filling_long c.loop-mark.invariant)) c.lost_by.ensures

pub shape_of-marks : goal.shape_of-marks
shape_of-marks c = filling_long c.loop-mark.invariant

pub returns : goal.returns
returns c = kept_all c.loop-mark.invariant (omega (arith, c.loop-mark-test.false, filling_long c.loop-mark.invariant))
