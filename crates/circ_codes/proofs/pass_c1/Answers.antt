-- `circ_codes::pass_c1` meets its contract (`passes_c1`).
-- Assumes nothing.
use Rattle.circ_codes.proofs.Passing.{passes_c1}
use Rattle.circ_codes.proofs.pass_c1.Goals as goal

pub returns : goal.returns
returns c = passes_c1 c.args.rows c.pass.result c.pass.ensures
