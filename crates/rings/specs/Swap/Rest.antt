-- The rows of a section from the k-th on, with the places from one place on and the store from its base on: the first of them, and those after it.
-- Assumes nothing.
use Rattle.std.specs.Prelude.{◌≡◌, refl, Bool, true, false, ℕ, suc, ◌+◌, ◌-◌, ◌≤◌, ◌<◌, length, take}
use Rattle.std.proofs.Math.Path.{sym, ap, ap₂}
use Rattle.std.proofs.Common.{◌∙◌, add-zero, add-one, length-drop, drop-cons, drop-drop, get_or-drop}
use Rattle.std.proofs.Math.Bool.{cond}
use mathlib.Core.List.{List, ◌∷◌, ◌++◌}
use native.Mathlib.Omega.{arith}
use Rattle.std.proofs.Math.ListN.{drop, get_or, set}
use Rattle.rings.specs.Swap.{row_fits, rings_out, rings_next}
use Rattle.rings.specs.Swap.Lines.{row_fits_lem}

pub at_value : (ds : List ℕ) (k v : ℕ) → k < length ds → get_or ds k 0 ≡ v → drop k ds ≡ v ∷ drop (k + 1) ds
at_value ds k v h e = drop-cons ds k 0 h ∙ ap₂ (λ (a b : ℕ). a ∷ drop b ds) e (sym (add-one k))

pub first-left : (at : ℕ) (ps : List ℕ) → get_or (drop at ps) 0 0 ≡ get_or ps at 0
first-left at ps = get_or-drop at ps 0 0 ∙ ap (λ (n : ℕ). get_or ps n 0) (add-zero at)

-- ---- a row that does not wait

module _ (ds ps : List ℕ) (k at : ℕ) (h : k < length ds) (z : get_or ds k 0 ≡ 0) where
  module _ (s w : List ℕ) (l : k < length w) where
    pub out_still : rings_out (drop k ds) (drop at ps) s (drop k w) ≡ get_or w k 0 ∷ rings_out (drop (k + 1) ds) (drop at ps) s (drop (k + 1) w)
    unfolding rings_out
    out_still = ap₂ (λ (t u : List ℕ). rings_out t (drop at ps) s u) (at_value ds k 0 h z) (at_value w k (get_or w k 0) l refl)

    pub next_still : rings_next (drop k ds) (drop at ps) s (drop k w) ≡ rings_next (drop (k + 1) ds) (drop at ps) s (drop (k + 1) w)
    unfolding rings_next
    next_still = ap₂ (λ (t u : List ℕ). rings_next t (drop at ps) s u) (at_value ds k 0 h z) (at_value w k (get_or w k 0) l refl)

-- ---- a row that waits d steps

module _ (ds ps : List ℕ) (k at d : ℕ) (h : k < length ds) (is-d : d ≡ get_or ds k 0) (pos : 0 < d) where
  e : ℕ
  e = d - 1

  is : d ≡ suc e
  unfolding e
  is = omega arith

  row : drop k ds ≡ suc e ∷ drop (k + 1) ds
  row = at_value ds k (suc e) h (sym is-d ∙ is)

  module _ (base : ℕ) (s w : List ℕ) (l : k < length w) where
    one : drop k w ≡ get_or w k 0 ∷ drop (k + 1) w
    one = at_value w k (get_or w k 0) l refl

    -- the row fits
    module _ (ha : at < length ps) (hp : get_or ps at 0 < d) (hs : base + d ≤ length s) where
      fit : row_fits (suc e) (drop at ps) (drop base s) ≡ true
      fit =
          row_fits_lem (suc e) (drop at ps) (drop base s)
          (omega (arith, length-drop at ps))
          (omega (arith, first-left at ps, is))
          (omega (arith, length-drop base s, is))

      pub out_ring : rings_out (drop k ds) (drop at ps) (drop base s) (drop k w)
          ≡ get_or s (base + get_or ps at 0) 0 ∷ rings_out (drop (k + 1) ds) (drop (at + 1) ps) (drop (base + d) s) (drop (k + 1) w)
      unfolding rings_out
      out_ring =
          ap₂ (λ (t u : List ℕ). rings_out t (drop at ps) (drop base s) u) row one
          ∙ ap
          (λ (b : Bool).
          cond b
          (get_or (drop base s) (get_or (drop at ps) 0 0) 0 ∷ rings_out (drop (k + 1) ds) (drop 1 (drop at ps)) (drop (suc e) (drop base s)) (drop (k + 1) w))
          (get_or w k 0 ∷ drop (k + 1) w))
          fit
          ∙ ap₂ (λ (p : ℕ) (t : List ℕ). get_or (drop base s) p 0 ∷ rings_out (drop (k + 1) ds) t (drop (suc e) (drop base s)) (drop (k + 1) w))
          (first-left at ps)
          (drop-drop 1 at ps)
          ∙ ap₂ (λ (y : ℕ) (t : List ℕ). y ∷ rings_out (drop (k + 1) ds) (drop (at + 1) ps) t (drop (k + 1) w))
          (get_or-drop base s (get_or ps at 0) 0)
          (drop-drop (suc e) base s ∙ ap (λ (n : ℕ). drop (base + n) s) (sym is))

      pub next_ring : rings_next (drop k ds) (drop at ps) (drop base s) (drop k w)
          ≡ set (take d (drop base s)) (get_or ps at 0) (get_or w k 0) ++ rings_next (drop (k + 1) ds) (drop (at + 1) ps) (drop (base + d) s) (drop (k + 1) w)
      unfolding rings_next
      next_ring =
          ap₂ (λ (t u : List ℕ). rings_next t (drop at ps) (drop base s) u) row one
          ∙ ap
          (λ (b : Bool).
          cond b
          (set (take (suc e) (drop base s)) (get_or (drop at ps) 0 0) (get_or w k 0)
          ++ rings_next (drop (k + 1) ds) (drop 1 (drop at ps)) (drop (suc e) (drop base s)) (drop (k + 1) w))
          (drop base s))
          fit
          ∙ ap₂ (λ (p : ℕ) (t : List ℕ). set (take (suc e) (drop base s)) p (get_or w k 0) ++ rings_next (drop (k + 1) ds) t (drop (suc e) (drop base s)) (drop (k + 1) w))
          (first-left at ps)
          (drop-drop 1 at ps)
          ∙ ap₂ (λ (n : ℕ) (t : List ℕ). set (take n (drop base s)) (get_or ps at 0) (get_or w k 0) ++ rings_next (drop (k + 1) ds) (drop (at + 1) ps) t (drop (k + 1) w))
          (sym is)
          (drop-drop (suc e) base s ∙ ap (λ (n : ℕ). drop (base + n) s) (sym is))

    -- the row does not fit
    module _ (no : row_fits d (drop at ps) (drop base s) ≡ false) where
      no' : row_fits (suc e) (drop at ps) (drop base s) ≡ false
      no' = ap (λ (n : ℕ). row_fits n (drop at ps) (drop base s)) (sym is) ∙ no

      pub out_stop : rings_out (drop k ds) (drop at ps) (drop base s) (drop k w) ≡ drop k w
      unfolding rings_out
      out_stop =
          ap₂ (λ (t u : List ℕ). rings_out t (drop at ps) (drop base s) u) row one
          ∙ ap
          (λ (b : Bool).
          cond b
          (get_or (drop base s) (get_or (drop at ps) 0 0) 0 ∷ rings_out (drop (k + 1) ds) (drop 1 (drop at ps)) (drop (suc e) (drop base s)) (drop (k + 1) w))
          (get_or w k 0 ∷ drop (k + 1) w))
          no'
          ∙ sym one

      pub next_stop : rings_next (drop k ds) (drop at ps) (drop base s) (drop k w) ≡ drop base s
      unfolding rings_next
      next_stop =
          ap₂ (λ (t u : List ℕ). rings_next t (drop at ps) (drop base s) u) row one
          ∙ ap
          (λ (b : Bool).
          cond b
          (set (take (suc e) (drop base s)) (get_or (drop at ps) 0 0) (get_or w k 0)
          ++ rings_next (drop (k + 1) ds) (drop 1 (drop at ps)) (drop (suc e) (drop base s)) (drop (k + 1) w))
          (drop base s))
          no'
