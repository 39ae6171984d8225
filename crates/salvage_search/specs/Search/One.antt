-- The search has one outcome: what is found, what the passes leave, and the last trial.
-- Assumes nothing.
use Rattle.std.specs.Prelude.{◌≡◌, refl, List, ℕ, zero, suc, length, Option, Some, None}
use Rattle.std.proofs.Common.{sym, ap, subst, ◌∙◌, arith}
use Rattle.std.proofs.Math.Decide.{ℕ_discrete}
use Rattle.trial.specs.Tried.{Tried}
use Rattle.trial.specs.Tried.One.{tried_one}
use Rattle.salvaging.specs.Turns.One.{after_one}
use Rattle.salvaging.proofs.Salvage.One.{result_one, found-not-none}
use Rattle.salvage_search.specs.Search.{Finds, made, Left, Search, Searched}

-- two outcomes are the same
pub record SameSearch (f g : Option ℕ) (s u t v : List ℕ) : Type 0 where
  pub finds : f ≡ g
  pub left : s ≡ u
  pub trial : t ≡ v

module _ (r old : List ℕ) (allowed : ℕ) where
  finds_one : (f g : Option ℕ) (t v : List ℕ) → Finds r allowed f t → Finds r allowed g v → f ≡ g
  finds_one (Some k) (Some j) t v p q = ap (λ (n : ℕ). Some n) (result_one r p q).0
  finds_one (Some k) None t v p q = absurd (found-not-none r p q)
  finds_one None (Some k) t v p q = absurd (found-not-none r q p)
  finds_one None None t v p q = refl

  left_one : (n : ℕ) (s u t v : List ℕ) → Left r old n s t → Left r old n u v → (s ≡ u) × (t ≡ v)
  left_one zero s u t v p q = (after_one p.after q.after, p.untried refl ∙ sym (q.untried refl))
  left_one (suc n) s u t v p q =
      let e : s ≡ u = after_one p.after q.after in
      (e, tried_one s t v (p.tried (omega arith)) (subst (λ (x : List ℕ). Tried x v) (sym e) (q.tried (omega arith))))

  search_one : (f g : Option ℕ) (s u t v : List ℕ) → Search r old allowed f s t → Search r old allowed g u v → SameSearch f g s u t v
  search_one f g s u t v p q =
      let e : f ≡ g = finds_one f g t v p.finds q.finds in
      let both = left_one (made allowed f) s u t v p.left (subst (λ (n : ℕ). Left r old n u v) (ap (made allowed) (sym e)) q.left) in
      record { finds = e; left = both.0; trial = both.1 }

  -- what is found for some bytes, and what becomes of them and of the copy
  pub searched_one : (f g : Option ℕ) (s u t v : List ℕ) → Searched r old allowed f s t → Searched r old allowed g u v → SameSearch f g s u t v
  searched_one f g s u t v p q = by (ℕ_discrete (length r) 2352) (ℕ_discrete (length old) 2352)
    where
      others : ((length r ≡ 2352) × (length old ≡ 2352) → ⊥) → SameSearch f g s u t v
      others n =
          let x = p.other n in
          let y = q.other n in
          record { finds = x.0 ∙ sym y.0; left = x.1 ∙ sym y.1; trial = x.2 ∙ sym y.2 }

      by : Dec (length r ≡ 2352) → Dec (length old ≡ 2352) → SameSearch f g s u t v
      by (yes a) (yes b) = search_one f g s u t v (p.sectors a b) (q.sectors a b)
      by (yes a) (no n) = others (λ h. n h.1)
      by (no n) b = others (λ h. n h.0)
