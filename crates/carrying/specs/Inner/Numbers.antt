-- How many frames a length is.
-- Assumes nothing.
use Rattle.std.specs.Prelude.{List, ℕ, Option}
use Rattle.std.specs.Option.{MatchOption}
use Rattle.carrying.specs.Carry.{DataFrames}

-- the number of frames in w, or none where it is not 1 to 16
abbrev pub Counted : List ℕ → Option ℕ → Type 0
Counted w n = MatchOption n ((m : ℕ) → DataFrames m w → ⊥) (λ m. DataFrames m w)
