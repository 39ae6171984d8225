-- A part that begins past the end of a store is as much of it as there is: nothing.
-- Assumes nothing.
use Rattle.std.specs.Prelude.{◌≡◌, ◌⊎◌, List, ◌++◌, ℕ, ◌-◌, ◌≤◌, ◌<◌, length, take, drop}
use Rattle.std.proofs.Common.{sym, ap, ap₂, ◌∙◌, inl, inr, arith, drop_of_length-le, length-drop, take_all}
use borrow.Rule.Slice.PartMut.{put_mid}
use Rattle.outcome.specs.First.Found.{lt-or-le}
use Rattle.outcome.specs.Buffer.Part.{end_back}
use Rattle.rings.specs.Swap.{rings_out, rings_next}

-- n, or as many as there are
abbrev pub clamped : ℕ → ℕ → ℕ
clamped n k = n - (n - k)

pub take-clamped : (n : ℕ) (s : List ℕ) → take (clamped n (length s)) s ≡ take n s
take-clamped n s = by (lt-or-le n (length s))
  where
    by : (n < length s) ⊎ (length s ≤ n) → take (clamped n (length s)) s ≡ take n s
    by (inl h) = let e : clamped n (length s) ≡ n = omega arith in ap (λ (k : ℕ). take k s) e
    by (inr h) = take_all (clamped n (length s)) s (omega arith) ∙ sym (take_all n s h)

pub drop-clamped : (n : ℕ) (s : List ℕ) → drop (clamped n (length s)) s ≡ drop n s
drop-clamped n s = by (lt-or-le n (length s))
  where
    by : (n < length s) ⊎ (length s ≤ n) → drop (clamped n (length s)) s ≡ drop n s
    by (inl h) = let e : clamped n (length s) ≡ n = omega arith in ap (λ (k : ℕ). drop k s) e
    by (inr h) = drop_of_length-le s {i = clamped n (length s)} (omega arith) ∙ sym (drop_of_length-le s {i = n} h)

-- the rest that is lent from a place on
lent : (n start : ℕ) (s : List ℕ) → start ≡ clamped n (length s) → take (length s - start) (drop start s) ≡ drop n s
lent n start s e = take_all (length s - start) (drop start s) (omega (arith, length-drop start s)) ∙ ap (λ (k : ℕ). drop k s) e ∙ drop-clamped n s

-- what `swap` does to the rests that are lent to it is what the stage does
pub turn-clamped : (ds ps s w w' q : List ℕ) (first from start base : ℕ) → start ≡ clamped first (length ps) → base ≡ clamped from (length s)
    → w' ≡ rings_out ds (take (length ps - start) (drop start ps)) (take (length s - base) (drop base s)) w
    → q ≡ rings_next ds (take (length ps - start) (drop start ps)) (take (length s - base) (drop base s)) w
    → (w' ≡ rings_out ds (drop first ps) (drop from s) w) × (put_mid base (length s - base) s q ≡ take from s ++ rings_next ds (drop first ps) (drop from s) w)
turn-clamped ds ps s w w' q first from start base ep es eo en = (
  eo ∙ ap₂ (λ (p l : List ℕ). rings_out ds p l w) (lent first start ps ep) (lent from base s es),
  end_back base s q (omega arith)
      ∙ ap₂ ◌++◌ (ap (λ (k : ℕ). take k s) es ∙ take-clamped from s) (en ∙ ap₂ (λ (p l : List ℕ). rings_next ds p l w) (lent first start ps ep) (lent from base s es)),
)
