-- `frame_faults::first_fault` meets its contract: the frames passed have no fault, so that the others decide (`Looking`).
-- Assumes nothing.
use mathlib.Core.Path.{◌∙◌}
use Rattle.frame_faults.proofs.Looking.{looking_found, looking_more, looking_all, lent-frame, handed_on}
use Rattle.frame_faults.proofs.first_fault.Goals as goal

pub returns-in_err-fault_of : goal.returns-in_err-fault_of
returns-in_err-fault_of c =
    handed_on c.from_residual.result _ _ c.from_residual.ensures.1
    (looking_found c.loop-i.invariant c.loop-i-test.true _ _ (c.in_err-fault_of.ensures ∙ lent-frame c.loop-i.i c.args.frames.now))

pub loop-i-preserved : goal.loop-i-preserved
loop-i-preserved c =
    looking_more c.loop-i.invariant c.loop-i-test.true (c.in_ok-fault_of.ensures ∙ lent-frame c.loop-i.i c.args.frames.now)

pub returns : goal.returns
returns c = looking_all c.loop-i.invariant c.loop-i-test.false
