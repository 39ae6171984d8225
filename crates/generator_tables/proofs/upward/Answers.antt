-- `generator_tables::upward` meets its contract: the table is computed.
-- Assumes nothing.
use mathlib.Core.Path.{refl}
use Rattle.field.specs.Field.{times_alpha, mul_bits, mul}
use Rattle.generator_rows.specs.Rows.{rows}
use Rattle.generator_tables.proofs.upward.Goals as goal

pub returns : goal.returns
unfolding rows mul mul_bits times_alpha
returns c = refl
