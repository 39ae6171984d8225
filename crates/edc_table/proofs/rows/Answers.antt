-- `edc_table::rows` meets its contract: the table's 1,024 values are computed, each by one sum (`Spread`).
-- Assumes nothing.
use mathlib.Core.Path.{◌≡◌, ap₂}
use mathlib.Core.List.{List, ◌++◌}
use Prim.Native.Nat.{ℕ}
use Rattle.edc.specs.Register.{step, steps}
use Rattle.edc.specs.Register.Steps.{steps-add}
use Rattle.edc.specs.Rows.{block, rows}
use Rattle.edc_table.proofs.Spread.{spread, spread_is}
use Rattle.edc_table.proofs.rows.Goals as goal

-- the rule's list, computed by sums
quick : spread (steps 8) 8 ++ (spread (steps 16) 8 ++ (spread (steps 24) 8 ++ spread (steps 32) 8)) ≡ rows
unfolding rows
quick =
    ap₂ (λ (k l : List ℕ). k ++ l) (right 8) (ap₂ (λ (k l : List ℕ). k ++ l) (right 16) (ap₂ (λ (k l : List ℕ). k ++ l) (right 24) (right 32)))
  where
    right : (k : ℕ) → spread (steps k) 8 ≡ block k
    right k = spread_is (steps k) (steps-add k) 8

pub returns : goal.returns
unfolding steps step spread
returns c = quick
