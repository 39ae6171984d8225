-- A search from 0 on, number by number, that stops at the first that passes a test.
-- Assumes nothing.
use mathlib.Core.Path.{◌≡◌, subst}
use mathlib.Core.Bool.{Bool, true}
use mathlib.Core.Logic.{◌⊎◌, inl, inr}
use Prim.Native.Nat.{ℕ, ◌+◌, ◌≤◌, ◌<◌}
use native.Mathlib.Omega.{arith}
use Rattle.std.proofs.Common.{Option, Some, None}
use Rattle.std.specs.Option.{MatchOption}
use Rattle.outcome.specs.First.{first_below}
use Rattle.outcome.specs.First.Found.{lt-or-le, found_first}

-- the numbers below i don't pass
pub record Passed (g : ℕ → Bool) (m i : ℕ) : Type 0 where
  pub upto : i ≤ m
  pub none : (k : ℕ) → k < i → g k ≡ true → ⊥

pub passed_none : (g : ℕ → Bool) (m : ℕ) → Passed g m 0
passed_none g m = record { upto = omega arith; none = λ k l e. omega arith }

module _ {g : ℕ → Bool} {m i : ℕ} (p : Passed g m i) where
  pub passed_more : i < m → (g i ≡ true → ⊥) → Passed g m (i + 1)
  passed_more l h = record { upto = omega arith; none = λ k b e. by k e (lt-or-le k i) b }
    where
      by : (k : ℕ) → g k ≡ true → (k < i) ⊎ (i ≤ k) → k < i + 1 → ⊥
      by k e (inl b) c = p.none k b e
      by k e (inr b) c = let s : k ≡ i = omega arith in h (subst (λ (j : ℕ). g j ≡ true) s e)

  pub passed_found : g i ≡ true → i ≡ first_below g m
  passed_found e = found_first g m i (record { within = p.upto; before = p.none; holds = λ _. e })

  pub passed_all : m ≤ i → i ≡ first_below g m
  passed_all h = found_first g m i (record { within = p.upto; before = p.none; holds = λ l. absurd (omega arith) })

-- what the library's search from 0 on says
pub searched : (g : ℕ → Bool) (m : ℕ) (r : Option ℕ)
    → MatchOption r ((k : ℕ) → 0 ≤ k → k < m → g k ≡ true → ⊥)
    (λ i. (0 ≤ i) × (i < m) × (g i ≡ true) × ((k : ℕ) → 0 ≤ k → k < i → g k ≡ true → ⊥))
    → MatchOption r (m ≤ first_below g m) (λ i. (i ≡ first_below g m) × (i < m))
searched g m None h =
    omega (arith, passed_all {g = g} {m = m} {i = m} (record { upto = omega arith; none = λ k l. h k (omega arith) l }) (omega arith))
searched g m (Some i) (z, l, y, b) =
    (passed_found (record { upto = omega arith; none = λ k s. b k (omega arith) s }) y, l)
