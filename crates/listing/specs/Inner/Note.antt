-- One byte noted in the list, where it differs.
-- Assumes nothing.
use Rattle.std.specs.Prelude.{◌≡◌, List, ◌++◌, ℕ, ◌+◌, ◌*◌, take, drop}
use Rattle.listing.specs.Listed.{bytes_of}

pub record Notes (n i x y : ℕ) (list : List ℕ) (r : ℕ) (new : List ℕ) : Type 0 where
  pub same : x ≡ y → (r ≡ n) × (new ≡ list)
  pub other : (x ≡ y → ⊥) → (r ≡ n + 1) × (new ≡ take (4 * n) list ++ (bytes_of (record { at = i; was = x; is = y }) ++ drop (4 * n + 4) list))
