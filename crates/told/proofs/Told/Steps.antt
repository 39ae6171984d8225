-- What is told of a step allows one outcome, the state that is handed back included.
-- Assumes nothing.
use Rattle.std.specs.Prelude.{◌≡◌, List, ℕ}
use Rattle.std.proofs.Common.{sym, ap, ◌∙◌}
use Rattle.calls.specs.Step.{Step, step}
use Rattle.told.specs.Told.{Told}
use Rattle.told.proofs.Told.One.{told_one}

module _ {x y : ℕ} {v w : List ℕ} where
  pub step-one : {k : ℕ} {S : Type 0} (o : Step S) (m n : S) (s t : List ℕ) → Told k (λ say. step say m s ≡ o) x v → Told k (λ say. step say n t ≡ o) y w
      → (x ≡ y) × (v ≡ w) × ((m ≡ n) × (s ≡ t))
  step-one {S = S} o m n s t =
      told_one (λ a b e f. (ap (λ (z : Step S). z.say) (e ∙ sym f), (ap (λ (z : Step S). z.next) (e ∙ sym f), ap (λ (z : Step S). z.out) (e ∙ sym f))))
