-- Parts of lists: as many elements as there are, and a part put in the place of another.
-- Assumes nothing.
use mathlib.Core.Path.{◌≡◌, refl, sym, ap, ◌∙◌}
use mathlib.Core.List.{List, [], ◌∷◌, ◌++◌, append_assoc}
use Prim.Native.Nat.{ℕ, zero, suc, ◌+◌, ◌-◌, ◌≤◌, min}
use native.Mathlib.Nat.{zero-min, min-zero, suc-min-suc}
use native.Mathlib.Omega.{arith}
use lib.ListN.{length, get_or, set, take, drop, length-append, length-drop}
use lib.Seq.{length-take-le, take_at, drop_at, drop-cons, drop-drop}

-- more than all of a list is all of it
pub take_min : (n : ℕ) (w : List ℕ) → take n w ≡ take (min n (length w)) w
take_min zero w = ap (λ (k : ℕ). take k w) (sym (zero-min (length w)))
take_min (suc n) [] = ap (λ (k : ℕ). take {A = ℕ} k []) (sym (min-zero (suc n)))
take_min (suc n) (x ∷ w) = ap (λ (v : List ℕ). x ∷ v) (take_min n w) ∙ ap (λ (k : ℕ). take k (x ∷ w)) (sym (suc-min-suc n (length w)))

pub drop_min : (n : ℕ) (w : List ℕ) → drop n w ≡ drop (min n (length w)) w
drop_min zero w = ap (λ (k : ℕ). drop k w) (sym (zero-min (length w)))
drop_min (suc n) [] = ap (λ (k : ℕ). drop {A = ℕ} k []) (sym (min-zero (suc n)))
drop_min (suc n) (x ∷ w) = drop_min n w ∙ ap (λ (k : ℕ). drop k (x ∷ w)) (sym (suc-min-suc n (length w)))

-- What is lent of w from a place on, where so many elements are asked for: they end at `end`.
module _ (asked from end : ℕ) (w : List ℕ) (h : from ≤ length w) (e : end ≡ from + min asked (length w - from)) where
  as_many : min asked (length (drop from w)) ≡ end - from
  as_many = ap (min asked) (length-drop from w) ∙ omega arith

  pub lent-part : take asked (drop from w) ≡ take (end - from) (drop from w)
  lent-part = take_min asked (drop from w) ∙ ap (λ (n : ℕ). take n (drop from w)) as_many

  pub lent_rest : drop asked (drop from w) ≡ drop end w
  lent_rest =
      let whole : from + (end - from) ≡ end = omega arith in
      drop_min asked (drop from w)
      ∙ ap (λ (n : ℕ). drop n (drop from w)) as_many
      ∙ drop-drop (end - from) from w
      ∙ ap (λ (n : ℕ). drop n w) whole

  pub lent-from : from ≤ end
  lent-from = omega arith

  pub lent_in_lem : end ≤ length w
  lent_in_lem = omega arith

-- the next two elements
pub drop-two : (w : List ℕ) (k : ℕ) → k + 2 ≤ length w → drop k w ≡ get_or w k 0 ∷ get_or w (k + 1) 0 ∷ drop (k + 2) w
drop-two w k h =
    let one : suc k ≡ k + 1 = omega arith in
    let two : suc (k + 1) ≡ k + 2 = omega arith in
    drop-cons w k 0 (omega arith)
    ∙ ap (λ (n : ℕ). get_or w k 0 ∷ drop n w) one
    ∙ ap (λ (v : List ℕ). get_or w k 0 ∷ v) (drop-cons w (k + 1) 0 (omega arith) ∙ ap (λ (n : ℕ). get_or w (k + 1) 0 ∷ drop n w) two)

-- p in the place of what stands from a to e
module _ (a e : ℕ) (w p : List ℕ) (h : a ≤ e) (l : e ≤ length w) (fits : length p ≡ e - a) where
  abbrev pub replaced : List ℕ
  replaced = take a w ++ (p ++ drop e w)

  front_long : length (take a w ++ p) ≡ e
  front_long = omega (arith, length-append (take a w) p, length-take-le a w (omega arith))

  pub take-replaced : take e replaced ≡ take a w ++ p
  take-replaced = ap (take e) (sym (append_assoc (take a w) p (drop e w))) ∙ take_at (take a w ++ p) (drop e w) e front_long

  pub drop-replaced : drop e replaced ≡ drop e w
  drop-replaced = ap (drop e) (sym (append_assoc (take a w) p (drop e w))) ∙ drop_at (take a w ++ p) (drop e w) e front_long

  pub length-replaced : length replaced ≡ length w
  length-replaced =
      omega (arith, length-append (take a w) (p ++ drop e w), length-append p (drop e w), length-take-le a w (omega arith), length-drop e w)

-- two elements written
pub two-set : (w : List ℕ) (a b : ℕ) → length w ≡ 2 → set (set w 0 a) 1 b ≡ a ∷ b ∷ []
two-set [] a b e = absurd (omega arith)
two-set (x ∷ []) a b e = absurd (omega arith)
two-set (x ∷ y ∷ []) a b e = refl
two-set (x ∷ y ∷ z ∷ w) a b e = absurd (omega arith)
