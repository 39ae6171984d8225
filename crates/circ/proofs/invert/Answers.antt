-- `circ::invert` meets its contract: the mask, which has as many rows, is added.
-- Assumes nothing.
use lib.ListN.{length}
use Rattle.outcome.specs.Buffer.Lengths.{same_lengths}
use Rattle.xor.specs.Added.{added}
use Rattle.circ.specs.Rows.{mask, inverted}
use borrow.Author.Rules.{rules}
use Rattle.circ.proofs.invert.Goals as goal

pub returns : goal.returns
unfolding inverted mask
returns c =
    let rows = c.args.rows in
    same_lengths c.add.result (length rows) 32 _ (added rows mask) rows c.add.ensures (search rules)
