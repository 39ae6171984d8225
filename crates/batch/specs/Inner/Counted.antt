-- How many Sectors a length is.
-- Assumes nothing.
use Rattle.std.specs.Prelude.{◌≡◌, List, ℕ, Option, Some, None}
use Rattle.batch.specs.Sectors.{Sectors}

-- how many Sectors r is, where it is 1 to 16
pub record Counted (r : List ℕ) (count : Option ℕ) : Type 0 where
  pub so_many : (n : ℕ) → count ≡ Some n → Sectors n r
  pub none : count ≡ None → (m : ℕ) → Sectors m r → ⊥
