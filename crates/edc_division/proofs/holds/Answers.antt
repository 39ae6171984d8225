-- `edc_division::holds` meets its contract: the test on the number is the test on the list (`zero_number`).
-- Assumes nothing.
use mathlib.Core.Path.{◌∙◌, sym, ap}
use Prim.Native.Nat.{ℕ}
use lib.Dec.{eqb}
use Rattle.edc.specs.Edc.Zero.{zero_number}
use Rattle.edc_division.proofs.holds.Goals as goal

pub returns : goal.returns
returns c = ap (λ (n : ℕ). eqb n 0) c.remainder.ensures ∙ sym (zero_number _)
