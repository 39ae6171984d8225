-- `preset` meets its contract: fifteen bits with 1 at bit 0 are the number 1.
-- Assumes nothing.
use mathlib.Core.Path.{refl}
use Rattle.sequence.specs.Sequence.{register}
use Rattle.sequence.proofs.Register.preset.Goals as goal

pub returns : goal.returns
unfolding register
returns c = refl
