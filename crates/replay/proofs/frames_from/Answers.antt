-- `replay::frames_from` meets its contract: the loop's invariant is that the bits before edge j are counted (`Counting`).
-- Assumes nothing.
use native.Mathlib.Omega.{arith}
use Rattle.replay.proofs.Counting.{counting_none, bits_few, counting_more, counting_all}
use Rattle.replay.proofs.frames_from.Goals as goal

pub loop-j-init : goal.loop-j-init
loop-j-init c = search counting_none

pub overflow_add-bits : goal.overflow_add-bits
overflow_add-bits c =
    omega (
      arith,
      bits_few c.requires c.loop-j.invariant (omega (arith, c.loop-j-test.true, c.saturating_sub-runs.ensures)) _ c.bits_at-bits.ensures,
    )

pub loop-j-preserved : goal.loop-j-preserved
loop-j-preserved c =
    counting_more c.requires c.loop-j.invariant (omega (arith, c.loop-j-test.true, c.saturating_sub-runs.ensures)) _ c.bits_at-bits.ensures

pub returns : goal.returns
returns c = counting_all c.requires c.loop-j.invariant (omega (arith, c.loop-j-test.false, c.saturating_sub-runs.ensures))
