-- `fate_counts::Counts::none` meets its contract: it is the definition's record.
-- Assumes nothing.
use mathlib.Core.Path.{refl}
use Rattle.fate_counts.proofs.Counts.none.Goals as goal

pub returns : goal.returns
returns c = refl
