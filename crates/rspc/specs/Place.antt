-- What a function does to a Sector in place.
-- Assumes nothing.
use Rattle.std.specs.Prelude.{◌≡◌, Bool, false, List, ℕ, length}
pub mod One

-- Of 2,352 bytes it does what P says of the bytes before, the answer and the bytes after; of any other number it changes nothing and
-- answers false.
pub record InPlace (P : List ℕ → Bool → List ℕ → Type 0) (s : List ℕ) (r : Bool) (t : List ℕ) : Type 0 where
  pub sector : length s ≡ 2352 → P s r t
  pub other : (length s ≡ 2352 → ⊥) → (r ≡ false) × (t ≡ s)
