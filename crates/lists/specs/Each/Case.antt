-- What holds of each number below a bound holds of any.
-- Assumes nothing.
use Rattle.std.specs.Prelude.{◌≡◌, ◌⊎◌, ℕ, zero, suc, ◌<◌}
use Rattle.std.proofs.Common.{sym, subst, inl, inr, not-suc-le-zero, le_of_suc-le-suc, eq-or-lt_of_le}
use Rattle.lists.specs.Each.{Each}

-- P k, of all those below n
pub case : (P : ℕ → Type 0) (n : ℕ) → Each P n → (k : ℕ) → k < n → P k
case P zero e k h = absurd (not-suc-le-zero h)
case P (suc n) e k h = go (eq-or-lt_of_le (le_of_suc-le-suc h)) (case P n e.1 k)
  where
    go : (k ≡ n) ⊎ (k < n) → (k < n → P k) → P k
    go (inl q) g = subst P (sym q) e.0
    go (inr l) g = g l
