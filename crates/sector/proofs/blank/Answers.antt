-- `sector::blank` meets its contract: a repeat is `zeros`.
-- Assumes nothing.
use mathlib.Core.Path.{refl}
use Rattle.sector.specs.Layout.{zeros}
use Rattle.sector.proofs.blank.Goals as goal

pub returns : goal.returns
unfolding zeros
returns c = refl
