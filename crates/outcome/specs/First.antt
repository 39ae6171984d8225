-- A search for the first number below a bound at which something holds.
-- Assumes nothing.
use Rattle.std.specs.Prelude.{Bool, cond, ℕ, zero, suc, ◌≤◌, ◌<◌}
pub mod Found

-- `first` is the first number below n at which P holds, or n where there is none
pub record First (P : ℕ → Type 0) (n first : ℕ) : Type 0 where
  pub within : first ≤ n
  pub before : (k : ℕ) → k < first → P k → ⊥
  pub holds : first < n → P first

-- ---- the same as a number: the first of n numbers from k on that passes the test

unfoldable pub first_from : (ℕ → Bool) → ℕ → ℕ → ℕ
first_from f k zero = k
first_from f k (suc n) = cond (f k) k (first_from f (suc k) n)

unfoldable pub first_below : (ℕ → Bool) → ℕ → ℕ
first_below f n = first_from f 0 n
