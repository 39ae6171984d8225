-- `control_writer::field_bytes` meets its contract: the first byte has the two fields, of four bits each.
-- Assumes nothing.
use native.Mathlib.Omega.{arith}
use Rattle.control.specs.Inner.Small.{field_lt, mode_lt}
use Rattle.control_writer.proofs.field_bytes.Goals as goal

pub overflow_mul-first : goal.overflow_mul-first
overflow_mul-first c = omega (arith, field_lt c.args.copying)

pub overflow_add-first : goal.overflow_add-first
overflow_add-first c = omega (arith, field_lt c.args.copying, mode_lt c.args.q_data)

pub returns : goal.returns
returns c = cc
