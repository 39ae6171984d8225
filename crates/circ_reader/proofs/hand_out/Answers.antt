-- `circ_reader::hand_out` meets its contract: the frame is collected and copied, and the answer is that of the same rows.
-- Assumes nothing.
use mathlib.Core.Path.{ap, ◌∙◌}
use native.Mathlib.Omega.{arith}
use lib.ListN.{length}
use Rattle.outcome.specs.Buffer.Lengths.{same_lengths}
use Rattle.circ_reader.proofs.hand_out.Goals as goal

pub returns : goal.returns
returns c = (
  c.surety_of.ensures,
  same_lengths c.copy.result (length c.collect-f1.result) (length c.args.out.now) _ c.collect-f1.result _ c.copy.ensures
      (ap length c.collect-f1.ensures ∙ omega (arith, c.requires.1))
      ∙ c.collect-f1.ensures,
)
