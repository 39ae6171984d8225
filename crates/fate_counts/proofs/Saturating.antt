-- A sum that stays at the largest u64 is one more as far as there is room.
-- Assumes nothing.
use Rattle.std.proofs.Common.{◌≡◌, sym, ◌∙◌, cond, ltb, min, ℕ, ◌+◌, ◌^◌, ◌<◌, arith, lt-ltb, le-ltb}
use Rattle.std.proofs.Math.Decide.{ℕ_discrete}
use Rattle.fate_counts.specs.Counting.{largest, one_more_of}

pub one_more_is : (n : ℕ) → n < 2 ^ 64 → min (n + 1) largest ≡ one_more_of n
unfolding one_more_of
one_more_is n h = by (ℕ_discrete n largest)
  where
    by : Dec (n ≡ largest) → min (n + 1) largest ≡ cond (ltb n largest) (n + 1) n
    by (yes e) =
        let p : min (n + 1) largest ≡ n = omega arith in
        let q : cond (ltb n largest) (n + 1) n ≡ n = simp (le-ltb n largest (omega arith)) in
        p ∙ sym q
    by (no k) =
        let p : min (n + 1) largest ≡ n + 1 = omega arith in
        let q : cond (ltb n largest) (n + 1) n ≡ n + 1 = simp (lt-ltb n largest (omega arith)) in
        p ∙ sym q
