-- `address::HeaderTime::earlier` meets its contract: it compares how many come before the two.
-- Assumes nothing.
use mathlib.Core.Path.{ap₂}
use lib.Dec.{ltb}
use Rattle.address.proofs.HeaderTime.earlier.Goals as goal

pub returns : goal.returns
returns c = ap₂ ltb c.rank.ensures c.rank-2.ensures
