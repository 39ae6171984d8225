-- A trial has one outcome: what is tried, and whether it is correct.
-- Assumes nothing.
use Rattle.std.specs.Prelude.{◌≡◌, refl, Bool, true, false, List, ℕ}
use Rattle.std.proofs.Common.{sym, subst}
use Rattle.trial.specs.Freshen.One.{freshen_one}
use Rattle.salvage_passes.specs.Tries.{Decides, Tries}

-- no Sector is both correct and not
pub decides_one : (s : List ℕ) (a b : Bool) → Decides s a → Decides s b → a ≡ b
decides_one s true true p q = refl
decides_one s true false p q = absurd (q.wrong refl (p.right refl))
decides_one s false true p q = absurd (p.wrong refl (q.right refl))
decides_one s false false p q = refl

pub tries_one : (s : List ℕ) (a b : Bool) (t u : List ℕ) → Tries s a t → Tries s b u → (a ≡ b) × (t ≡ u)
tries_one s a b t u p q =
    let e : t ≡ u = (freshen_one s p.whole q.whole t u p.fresh q.fresh).1 in
    (decides_one t a b p.decides (subst (λ (x : List ℕ). Decides x b) (sym e) q.decides), e)
