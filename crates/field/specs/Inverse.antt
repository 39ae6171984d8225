-- The inverse of a byte as a function gives it, also where there is none.
-- Assumes nothing.
use Rattle.std.specs.Prelude.{◌≡◌, ℕ, ◌<◌}
use Rattle.field.specs.Field.{mul}
pub mod One

-- r is the byte whose product with a is 1; 0 has no inverse, and 0 stands in its place
pub record InverseOf (a r : ℕ) : Type 0 where
  pub byte : r < 256
  pub of_zero : a ≡ 0 → r ≡ 0
  pub unit : (a ≡ 0 → ⊥) → mul a r ≡ 1
