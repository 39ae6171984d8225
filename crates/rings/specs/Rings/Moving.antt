-- The loops over the places alone.
-- Assumes nothing.
use Rattle.std.specs.Prelude.{◌≡◌, refl, ◌⊎◌, Bool, true, ◌&&◌, ℕ, ◌+◌, ◌-◌, ◌≤◌, ◌<◌, ltb, length, drop, get_or, set}
use Rattle.std.proofs.Math.Path.{sym, ap, ap₂}
use Rattle.std.proofs.Common.{◌∙◌, inl, inr, add-one, arith, take-append-drop, drop-set-lt}
use Rattle.std.proofs.Math.Bool.{and_assoc, and-true}
use mathlib.Core.List.{List, [], ◌∷◌, ◌++◌}
use Rattle.std.proofs.Math.ListN.{take}
use Rattle.std.proofs.Math.Seq.{take-suc-set, append_snoc}
use Rattle.rings.specs.Ring.{following}
use Rattle.rings.specs.Rings.{below, onward}
use Rattle.rings.specs.Swap.Rest.{at_value}
use Rattle.rings.specs.Swap.Swapping.{spent}

module _ (ds ps : List ℕ) (k : ℕ) (h : k < length ds) (l : k < length ps) where
  pub below_more : (right : Bool) → (right && below (drop k ds) (drop k ps)) ≡ ((right && ltb (get_or ps k 0) (get_or ds k 0)) && below (drop (k + 1) ds) (drop (k + 1) ps))
  unfolding below
  below_more right =
      ap₂ (λ (t u : List ℕ). right && below t u) (at_value ds k (get_or ds k 0) h refl) (at_value ps k (get_or ps k 0) l refl)
      ∙ sym (and_assoc right (ltb (get_or ps k 0) (get_or ds k 0)) (below (drop (k + 1) ds) (drop (k + 1) ps)))

  pub onward_more : (all : List ℕ) (q : ℕ) → q ≡ following (get_or ds k 0) (get_or ps k 0) → all ≡ take k ps ++ onward (drop k ds) (drop k ps)
      → all ≡ take (k + 1) (set ps k q) ++ onward (drop (k + 1) ds) (drop (k + 1) (set ps k q))
  unfolding onward
  onward_more all q is-q e =
      e
      ∙ ap₂ (λ (t u : List ℕ). take k ps ++ onward t u) (at_value ds k (get_or ds k 0) h refl) (at_value ps k (get_or ps k 0) l refl)
      ∙ ap (λ (n : ℕ). take k ps ++ (n ∷ onward (drop (k + 1) ds) (drop (k + 1) ps))) (sym is-q)
      ∙ sym (append_snoc (take k ps) q (onward (drop (k + 1) ds) (drop (k + 1) ps)))
      ∙ sym
      (ap₂ (λ (t u : List ℕ). t ++ onward (drop (k + 1) ds) u)
      (ap (λ (n : ℕ). take n (set ps k q)) (add-one k) ∙ take-suc-set ps k q l)
      (drop-set-lt (k + 1) ps k q (omega arith)))

none_below : (ds ps : List ℕ) → (ds ≡ []) ⊎ (ps ≡ []) → below ds ps ≡ true
unfolding below
none_below [] ps h = refl
none_below (d ∷ ds) [] h = refl
none_below (d ∷ ds) (p ∷ ps) (inl e) = let z : ◌≡◌ {A = ℕ} 0 1 = cc in absurd (omega arith)
none_below (d ∷ ds) (p ∷ ps) (inr e) = let z : ◌≡◌ {A = ℕ} 0 1 = cc in absurd (omega arith)

none-onward : (ds ps : List ℕ) → (ds ≡ []) ⊎ (ps ≡ []) → onward ds ps ≡ ps
unfolding onward
none-onward [] ps h = refl
none-onward (d ∷ ds) [] h = refl
none-onward (d ∷ ds) (p ∷ ps) (inl e) = let z : ◌≡◌ {A = ℕ} 0 1 = cc in absurd (omega arith)
none-onward (d ∷ ds) (p ∷ ps) (inr e) = let z : ◌≡◌ {A = ℕ} 0 1 = cc in absurd (omega arith)

module _ (ds ps : List ℕ) (k : ℕ) (h : length ds - (length ds - length ps) ≤ k) where
  pub below_end : (right : Bool) → (right && below (drop k ds) (drop k ps)) ≡ right
  below_end right = ap (λ (b : Bool). right && b) (none_below (drop k ds) (drop k ps) (spent ds ps k h)) ∙ and-true right

  pub onward_end : take k ps ++ onward (drop k ds) (drop k ps) ≡ ps
  onward_end = ap (λ (t : List ℕ). take k ps ++ t) (none-onward (drop k ds) (drop k ps) (spent ds ps k h)) ∙ take-append-drop k ps
