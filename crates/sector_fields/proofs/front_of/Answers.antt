-- `sector_fields::front_of` meets its contract by computing.
-- Assumes nothing.
use mathlib.Core.Path.{refl}
use Rattle.sector_fields.specs.Front.{front}
use Rattle.sector_fields.proofs.front_of.Goals as goal

pub returns : goal.returns
unfolding front
returns c = refl
