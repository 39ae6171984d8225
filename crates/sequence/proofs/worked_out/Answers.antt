-- `worked_out` meets its contract: after n turns the first n + 15 bytes are those of the sequence (`Working`).
-- Assumes nothing.
use mathlib.Core.Path.{sym}
use native.Mathlib.Omega.{arith}
use Rattle.outcome.specs.Buffer.Filled.{filling_all}
use Rattle.sequence.specs.Sequence.Follows.{length-sequence}
use Rattle.sequence.proofs.Working.{worked_more}
use Rattle.sequence.proofs.worked_out.Goals as goal

pub loop-n-init : goal.loop-n-init
loop-n-init c = record { fits = sym length-sequence; upto = omega (arith, length-sequence); is = c.handed_out-bytes.ensures }

pub loop-n-preserved : goal.loop-n-preserved
loop-n-preserved c = worked_more c.loop-n.n c.loop-n.bytes c.loop-n.invariant c.loop-n-test.true

pub returns : goal.returns
returns c = filling_all c.loop-n.invariant (omega (arith, length-sequence))
