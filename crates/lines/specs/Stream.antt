-- Delay lines (Annex C.3, C.5, C.8) over time: a stream is a function of the step, counted from 0.
-- Assumes nothing.
use Rattle.std.specs.Prelude.{ℕ, zero, suc, List, replicate}
use Rattle.lines.specs.Delay.{rows_out, rows_next, total}
pub mod Late

-- the stream x, d steps later; z before the start
unfoldable pub back : {A : Type 0} → A → (ℕ → A) → ℕ → ℕ → A
back z x zero n = x n
back z x (suc d) zero = z
back z x (suc d) (suc n) = back z x d n

-- the store of a stage before step n, from a fresh one, when the words w go in
unfoldable pub state_at : List ℕ → (ℕ → List ℕ) → ℕ → List ℕ
state_at ds w zero = replicate (total ds) 0
state_at ds w (suc n) = rows_next ds (state_at ds w n) (w n)

-- what the stage gives at step n
unfoldable pub out_at : List ℕ → (ℕ → List ℕ) → ℕ → List ℕ
out_at ds w n = rows_out ds (state_at ds w n) (w n)
