-- Tables: a list of a rule's values, and a test that antt computes at each number below a bound.
-- Assumes nothing.
use Rattle.std.specs.Prelude.{Bool, true, ◌&&◌, List, [], ◌∷◌, ℕ, zero, suc}
pub mod Entries

-- ---- a rule's values: f i, f (i + 1), .., n of them

abbrev pub tabulated : (ℕ → ℕ) → ℕ → ℕ → List ℕ
tabulated f i zero = []
tabulated f i (suc n) = f i ∷ tabulated f (suc i) n

abbrev pub all_below : (ℕ → Bool) → ℕ → Bool
all_below f zero = true
all_below f (suc n) = f n && all_below f n
