-- `sector::intermediate_right` meets its contract: the field is eight zeros.
-- Assumes nothing.
use Rattle.sector.specs.Layout.{zeros}
use borrow.Author.Rules.{rules}
use Rattle.sector.proofs.intermediate_right.Goals as goal

pub returns : goal.returns
unfolding zeros
returns c = search rules
