-- `twists::power_of` meets its contract: after i turns x is α^i.
-- Assumes nothing.
use mathlib.Core.Path.{◌≡◌}
use Rattle.field.specs.Field.{power}
use Rattle.twists.proofs.power_of.Given as goal

abbrev pub invariant-loop-i : goal.invariant-loop-i
invariant-loop-i l = l.x ≡ power l._i
