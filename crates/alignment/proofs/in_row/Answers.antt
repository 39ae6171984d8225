-- `alignment::in_row` meets its contract: each way out is a law of `Counted`.
-- Assumes nothing.
use mathlib.Core.Path.{◌∙◌}
use borrow.Author.Tests.{eq-eqb, lt-ltb, le-ltb}
use native.Mathlib.Omega.{arith}
use Rattle.alignment.specs.Row.{is_row}
use Rattle.alignment.specs.Row.Counted.{not-whole, not-one, no_size}
use Rattle.alignment.proofs.in_row.Goals.{then-size-eq0-via-then-size-eq0, then-size-eq0-via-else-size-eq0+then-bytes-size-ne0}
use Rattle.alignment.proofs.in_row.Goals as goal

pub returns-then-size-eq0 : goal.returns-then-size-eq0
returns-then-size-eq0 c =
    elim c.then-size-eq0.branch [
      | then-size-eq0-via-then-size-eq0 w ↦ no_size _ _ _ w.if-size-eq0.true
      | then-size-eq0-via-else-size-eq0+then-bytes-size-ne0 w ↦ not-whole _ _ _ w.if-bytes-size-ne0.true
    ]

pub returns-then-n-gt0 : goal.returns-then-n-gt0
unfolding is_row
returns-then-n-gt0 c = simp (eq-eqb _ _ c.if-bytes-size-ne0.false, lt-ltb 0 _ c.if-n-gt0.true)

pub returns-else-n-gt0 : goal.returns-else-n-gt0
returns-else-n-gt0 c = le-ltb 0 _ (omega (arith, c.if-n-gt0.false)) ∙ not-one _ _ _ (omega (arith, c.if-n-gt0.false))
