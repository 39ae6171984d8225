-- `gathering::gather` meets its contract: each way out is a law of `Gathering`.
-- Assumes nothing.
use Rattle.gathering.proofs.Gathering.{ways}
use Rattle.gathering.proofs.gather.Goals as goal

pub returns-then-s-ne2352 : goal.returns-then-s-ne2352
returns-then-s-ne2352 c = search ways

pub returns-then-rows-ne2236 : goal.returns-then-rows-ne2236
returns-then-rows-ne2236 c = search ways

pub returns : goal.returns
returns c = search ways
