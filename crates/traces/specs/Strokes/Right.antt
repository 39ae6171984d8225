-- A stroke is the bits that it stands for, whose levels are counted from level +1.
-- Assumes nothing.
use Rattle.std.specs.Prelude.{◌≡◌, ℕ, zero, suc, ◌+◌, ◌-◌, ◌%◌, ◌^◌, ◌<◌, ◌≤◌, cond, List, length, ◌==◌, refl}
use Rattle.std.proofs.Common.{sym, ap, ◌∙◌, arith}
use Rattle.std.proofs.Math.Path.{ap₂}
use Rattle.merging.specs.Dsv.{level_after, ups, downs}
use Rattle.merging.specs.Dsv.Levels.{mirror, level_le, ups-downs}
use Rattle.traces.specs.declared.Tally.{Tally}
use Rattle.traces.specs.Strokes.{spent}
use Rattle.traces.specs.Traces.{tally_after, Light}

odd_up : (o : ℕ) → o ≤ 1 → cond (o == 0) 0 (1 - 0) ≡ o
odd_up zero h = refl
odd_up (suc zero) h = refl
odd_up (suc (suc o)) h = absurd (omega arith)

odd_down : (o : ℕ) → o ≤ 1 → cond (o == 0) 1 (1 - 1) ≡ 1 - o
odd_down zero h = refl
odd_down (suc zero) h = refl
odd_down (suc (suc o)) h = absurd (omega arith)

level_by : (l : ℕ) (bs : List ℕ) → l ≤ 1 → cond (level_after 0 bs == 0) l (1 - l) ≡ level_after l bs
level_by zero bs h = odd_up (level_after 0 bs) (level_le 0 bs (omega arith))
level_by (suc zero) bs h = odd_down (level_after 0 bs) (level_le 0 bs (omega arith)) ∙ sym (mirror bs).2
level_by (suc (suc l)) bs h = absurd (omega arith)

ups_by : (l : ℕ) (bs : List ℕ) → l ≤ 1 → cond (l == 1) (ups 1 bs) (downs 1 bs) ≡ ups l bs
ups_by zero bs h = sym (mirror bs).0
ups_by (suc zero) bs h = refl
ups_by (suc (suc l)) bs h = absurd (omega arith)

downs_by : (l : ℕ) (bs : List ℕ) → l ≤ 1 → cond (l == 1) (downs 1 bs) (ups 1 bs) ≡ downs l bs
downs_by zero bs h = (mirror bs).1
downs_by (suc zero) bs h = refl
downs_by (suc (suc l)) bs h = absurd (omega arith)

-- a count that is light does not wrap for some bits more
no_wrap : (n a b k : ℕ) → n < 2 ^ 60 → a ≡ b → b ≤ k → k ≤ 30 → (n + a) % 2 ^ 64 ≡ n + b
no_wrap n a b k l e h m = omega arith

module _ (t : Tally) (bs : List ℕ) (same other odd : ℕ) (room : Light t) (few : length bs ≤ 30)
    (u : same ≡ ups 1 bs) (d : other ≡ downs 1 bs) (o : odd ≡ level_after 0 bs) where
  low : t.level ≤ 1
  low = room.level_low

  -- the tally after a stroke is that after its bits
  pub spent_is : spent t same other odd ≡ tally_after t bs
  unfolding spent low
  spent_is =
      let total : ups t.level bs + downs t.level bs ≡ length bs = ups-downs t.level bs low in
      let up : cond (t.level == 1) same other ≡ ups t.level bs = ap₂ (λ (x y : ℕ). cond (t.level == 1) x y) u d ∙ ups_by t.level bs low in
      let down : cond (t.level == 1) other same ≡ downs t.level bs = ap₂ (λ (x y : ℕ). cond (t.level == 1) x y) d u ∙ downs_by t.level bs low in
      λ i.
      record {
        level = (ap (λ (n : ℕ). cond (n == 0) t.level (1 - t.level)) o ∙ level_by t.level bs low) i;
        plus = no_wrap t.plus _ _ (length bs) room.plus_low up (omega arith) few i;
        minus = no_wrap t.minus _ _ (length bs) room.minus_low down (omega arith) few i;
      }
