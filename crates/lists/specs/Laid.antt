-- A list with another laid into it from some place on.
-- Assumes nothing.
use Rattle.std.specs.Prelude.{◌≡◌, List, ℕ, ◌+◌, ◌<◌, ◌≤◌, length, get_or}
pub mod Copied

-- t is s with q from place a on
pub record Laid (a : ℕ) (q s t : List ℕ) : Type 0 where
  pub long : length t ≡ length s
  pub before : (i : ℕ) → i < a → get_or t i 0 ≡ get_or s i 0
  pub inside : (k : ℕ) → k < length q → get_or t (a + k) 0 ≡ get_or q k 0
  pub after : (i : ℕ) → a + length q ≤ i → get_or t i 0 ≡ get_or s i 0
