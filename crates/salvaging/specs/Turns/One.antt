-- After any number of passes there is one outcome, as long as what came in.
-- Assumes nothing.
use Rattle.std.specs.Prelude.{◌≡◌, refl, List, ℕ, suc, length}
use Rattle.std.proofs.Common.{sym, ◌∙◌, subst}
use Rattle.rspc.specs.declared.Parity.TheVariants.{P}
use Rattle.rspc.specs.Pass.{Passed}
use Rattle.rspc.proofs.Pass.One.{passed_one}
use Rattle.salvaging.specs.Turns.{turn, After, unpassed, passed}

pub after_one : {r s t : List ℕ} {n : ℕ} → After r n s → After r n t → s ≡ t
after_one unpassed unpassed = refl
after_one (passed {n = n} {t = t} a p) (passed {t = u} b q) =
    passed_one (turn (suc n)) _ t u p (subst (λ (x : List ℕ). Passed (turn (suc n)) x u) (sym (after_one a b)) q)

pub after_long : {r s : List ℕ} {n : ℕ} → After r n s → length s ≡ length r
after_long unpassed = refl
after_long (passed a p) = p.long ∙ after_long a

-- the first pass is over P
pub first-over_p : {r s : List ℕ} → After r 1 s → Passed P r s
first-over_p (passed unpassed p) = p
