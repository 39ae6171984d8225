-- `sector::filler_right` meets its contract: a Sector of another length has no such filler, and else the field is 2,336 zeros.
-- Assumes nothing.
use Rattle.sector.specs.Layout.{zeros}
use Rattle.sector.proofs.Compared.{no_filler, whole_filler}
use Rattle.sector.proofs.filler_right.Goals as goal

pub returns-then-s-ne2352 : goal.returns-then-s-ne2352
returns-then-s-ne2352 c = search no_filler

pub returns : goal.returns
unfolding zeros
returns c = search whole_filler
