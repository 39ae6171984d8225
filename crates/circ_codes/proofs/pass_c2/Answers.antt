-- `circ_codes::pass_c2` meets its contract: all of a C2 word is handed on (`passes_c2`).
-- Assumes nothing.
use borrow.Author.Rules.{rules}
use Rattle.circ_codes.proofs.Passing.{passes_c2}
use Rattle.circ_codes.proofs.pass_c2.Goals as goal

pub returns : goal.returns
returns c = passes_c2 c.args.rows c.pass.result (search rules) c.pass.ensures
