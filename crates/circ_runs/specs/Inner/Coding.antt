-- What a call of the writer or of the reader leaves.
-- Assumes nothing.
use Rattle.std.specs.Prelude.{◌≡◌, List, ℕ}
use Rattle.calls.specs.Step.{Step}
use Rattle.circ.specs.Rings.{Rings}
use Rattle.circ_runs.specs.Runs.{Call, two_bytes}

-- what a call leaves: the state, its answer in two bytes, and what its part of the buffer holds
pub record Leaves (does : Rings → Call → Step Rings) (state : Rings) (c : Call) (next : Rings) (answer out : List ℕ) : Type 0 where
  pub has_next_lem : next ≡ (does state c).next
  pub has_answer : answer ≡ two_bytes (does state c).say
  pub has_out : out ≡ (does state c).out
