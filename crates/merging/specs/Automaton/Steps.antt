-- The steps of the automaton: bits after bits; each leads to a state or breaks the rule, and the rule once broken stays broken.
-- Assumes nothing.
use Rattle.std.specs.Prelude.{◌≡◌, refl, Bool, true, false, cond, not, List, [], ◌∷◌, ◌++◌, ℕ, zero, suc, ◌+◌, ◌%◌, ◌≤◌, ◌<◌, T, eqb, leb, ltb}
use Rattle.std.proofs.Common.{sym, ap, ◌∙◌, subst, arith, eqb-true, leb-false, T_not}
use Rattle.std.proofs.Math.Dec.{eqb_refl}
use Rattle.merging.specs.Automaton.{broken, step, steps, live}

-- some bits and then others
pub steps-append : (s : ℕ) (p q : List ℕ) → steps s (p ++ q) ≡ steps (steps s p) q
steps-append s [] q = refl
steps-append s (b ∷ p) q = steps-append (step s b) p q

-- ---- a step leads to a state or breaks the rule

by_test : (t : Bool) (a b : ℕ) → (t ≡ true → a ≤ broken) → (t ≡ false → b ≤ broken) → cond t a b ≤ broken
by_test true a b f g = f refl
by_test false a b f g = g refl

-- from whatever number it goes out
pub step_low : (s b : ℕ) → step s b ≤ broken
unfolding step
step_low s zero =
    by_test (eqb s 10) broken (cond (leb 21 s) broken (s + 1)) (λ _. omega arith)
    (λ _. by_test (leb 21 s) broken (s + 1) (λ _. omega arith) (λ e. omega (arith, leb-false 21 s e)))
step_low s (suc b) =
    by_test (eqb s 10) 11 (cond (leb 21 s) broken (cond (ltb (s % 11) 2) broken 0)) (λ _. omega arith)
    (λ _. by_test (leb 21 s) broken (cond (ltb (s % 11) 2) broken 0) (λ _. omega arith) (λ _. by_test (ltb (s % 11) 2) broken 0 (λ _. omega arith) (λ _. omega arith)))

not-broken : (s : ℕ) → T (live s) → s ≡ broken → ⊥
not-broken s t e = T_not (eqb s broken) t (rw e (eqb_refl broken))

-- so it leads to a state where the rule is not broken
pub step_state : (s b : ℕ) → T (live (step s b)) → step s b < broken
step_state s b t = omega (arith, step_low s b, not-broken (step s b) t)

-- ---- the rule once broken stays broken

step-broken : (b : ℕ) → step broken b ≡ broken
unfolding step
step-broken zero = refl
step-broken (suc b) = refl

-- whatever bits follow
pub steps-broken : (bs : List ℕ) → steps broken bs ≡ broken
steps-broken [] = refl
steps-broken (b ∷ bs) = ap (λ (s : ℕ). steps s bs) (step-broken b) ∙ steps-broken bs

-- what is not broken in the end was not broken before
pub live-first : (s : ℕ) (bs : List ℕ) → T (live (steps s bs)) → T (live s)
live-first s bs t = go (eqb s broken) refl
  where
    go : (e : Bool) → eqb s broken ≡ e → T (live s)
    go true e = absurd (subst (λ (r : ℕ). T (live r)) (ap (λ (r : ℕ). steps r bs) (eqb-true s broken e) ∙ steps-broken bs) t)
    go false e = subst (λ (c : Bool). T (not c)) (sym e) tt
