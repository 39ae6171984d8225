-- What stands at an edge of a capture: the run from it to the next, if there is one (document 02, §5).
-- Assumes nothing.
use Rattle.std.specs.Prelude.{cond, List, ℕ, Option, Some, None, ltb, length, get_or}
use Rattle.captures.specs.Counts.{counts_of, runs_of}
pub mod Found

-- run i of a capture, or that there is none
unfoldable pub step_at : List ℕ → ℕ → Option ℕ
step_at w i = cond (ltb i (length (runs_of (counts_of w)))) (Some (get_or (runs_of (counts_of w)) i 0)) None
