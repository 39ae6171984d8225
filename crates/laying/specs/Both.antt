-- Two lists laid into a third, one behind the other.
-- Assumes nothing.
use Rattle.std.specs.Prelude.{◌≡◌, Bool, cond, List, ◌++◌, ℕ, ◌+◌, leb, length, take, drop}
pub mod Copied

-- whether s has room for p and q from place a on
abbrev pub fits : ℕ → List ℕ → List ℕ → List ℕ → Bool
fits a p q s = leb (a + length p + length q) (length s)

-- s with p and q from place a on
abbrev pub both : ℕ → List ℕ → List ℕ → List ℕ → List ℕ
both a p q s = take a s ++ (p ++ (q ++ drop (a + length p + length q) s))

-- what is answered and left
pub record Lays (a : ℕ) (p q s : List ℕ) (r : Bool) (t : List ℕ) : Type 0 where
  pub answer : r ≡ fits a p q s
  pub leaves : t ≡ cond r (both a p q s) s
