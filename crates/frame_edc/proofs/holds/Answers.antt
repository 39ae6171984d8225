-- `frame_edc::holds` meets its contract: the test on the number is the test on the list (`zero_number`).
-- Assumes nothing.
use mathlib.Core.Path.{◌∙◌, sym, ap}
use Prim.Native.Nat.{ℕ}
use lib.Dec.{eqb}
use Rattle.division.specs.Polynomial.Zeros.{zero_number}
use Rattle.frame_edc.specs.FrameEdc.{remainder}
use Rattle.frame_edc.proofs.holds.Goals as goal

pub returns : goal.returns
returns c = ap (λ (n : ℕ). eqb n 0) c.divide.ensures ∙ sym (zero_number (remainder c.args.bytes.now))
