-- There is one first number, and the search finds it.
-- Assumes nothing.
use Rattle.std.specs.Prelude.{◌≡◌, refl, Bool, true, false, cond, ◌⊎◌, ℕ, zero, suc, ◌+◌, ◌≤◌, ◌<◌, ltb}
use Rattle.std.proofs.Common.{subst, inl, inr, zero-add, arith, ltb-true, ltb-false}
use Rattle.outcome.specs.First.{First, first_from, first_below}

-- of two numbers the first is less, or it isn't
pub lt-or-le : (k i : ℕ) → (k < i) ⊎ (i ≤ k)
lt-or-le k i = by_test (ltb k i) refl
  where
    by_test : (t : Bool) → ltb k i ≡ t → (k < i) ⊎ (i ≤ k)
    by_test true e = inl (ltb-true k i e)
    by_test false e = inr (ltb-false k i e)

-- there is only one
pub first_one : (P : ℕ → Type 0) (n a b : ℕ) → First P n a → First P n b → a ≡ b
first_one P n a b f g = go (lt-or-le a b) (lt-or-le b a)
  where
    go : (a < b) ⊎ (b ≤ a) → (b < a) ⊎ (a ≤ b) → a ≡ b
    go (inl l) r = absurd (g.before a l (f.holds (omega (arith, g.within))))
    go (inr l) (inl m) = absurd (f.before b m (g.holds (omega (arith, f.within))))
    go (inr l) (inr m) = omega arith

-- the search from k on, where nothing before k passes
from_first : (f : ℕ → Bool) (n k m : ℕ) → k + n ≡ m → ((i : ℕ) → i < k → f i ≡ true → ⊥) → First (λ i. f i ≡ true) m (first_from f k n)
unfolding first_from
from_first f zero k m e h = record { within = omega arith; before = h; holds = λ l. absurd (omega arith) }
from_first f (suc n) k m e h = go (f k) refl (λ g. from_first f n (suc k) m (omega arith) g)
  where
    later : f k ≡ false → (i : ℕ) → i < suc k → f i ≡ true → ⊥
    later p i l q = by (lt-or-le i k)
      where
        by : (i < k) ⊎ (k ≤ i) → ⊥
        by (inl b) = h i b q
        by (inr b) =
            let s : i ≡ k = omega arith in
            let t : f k ≡ true = subst (λ (j : ℕ). f j ≡ true) s q in
            let z : ◌≡◌ {A = ℕ} 0 1 = cc in omega arith

    go : (b : Bool) → f k ≡ b → (((i : ℕ) → i < suc k → f i ≡ true → ⊥) → First (λ i. f i ≡ true) m (first_from f (suc k) n))
        → First (λ i. f i ≡ true) m (cond b k (first_from f (suc k) n))
    go true p r = record { within = omega arith; before = h; holds = λ _. p }
    go false p r = r (later p)

pub first_below_lem : (f : ℕ → Bool) (n : ℕ) → First (λ i. f i ≡ true) n (first_below f n)
unfolding first_below
first_below_lem f n = from_first f n 0 n (zero-add n) (λ i l q. omega arith)

-- what a search found is that number
pub found_first : (f : ℕ → Bool) (n r : ℕ) → First (λ i. f i ≡ true) n r → r ≡ first_below f n
found_first f n r g = first_one (λ i. f i ≡ true) n r (first_below f n) g (first_below_lem f n)
