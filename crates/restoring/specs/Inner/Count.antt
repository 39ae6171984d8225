-- A count put into a capture.
-- Assumes nothing.
use Rattle.std.specs.Prelude.{◌≡◌, ℕ, ◌+◌, ◌/◌, ◌%◌, List, [], ◌∷◌, ◌++◌, take, drop}

abbrev pub Counted : ℕ → ℕ → List ℕ → List ℕ → Type 0
Counted used c old new = new ≡ take used old ++ ((c / 256 ∷ c % 256 ∷ []) ++ drop (used + 2) old)
