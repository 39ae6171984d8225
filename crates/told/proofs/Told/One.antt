-- Two outcomes that a promise to a caller in another language allows are one, where those that the entry's own promise allows are.
-- Assumes nothing.
use Rattle.std.specs.Prelude.{◌≡◌, refl, List, ℕ}
use Rattle.std.proofs.Common.{sym, ap, ◌∙◌}
use Rattle.outcome.specs.Say.{Say, Outcome, outcome}
use Rattle.told.specs.Told.{number_of, values_of, placed, Told}

-- `Same` is what the entry's own law says of two outcomes besides that they say the same: that states and buffers are the same
pub told_one : {n x y : ℕ} {v w : List ℕ} {P Q : Say → Type 0} {Same : Type 0} → ((a b : Say) → P a → Q b → (a ≡ b) × Same)
    → Told n P x v → Told n Q y w → (x ≡ y) × (v ≡ w) × Same
told_one {n} settled p q =
    let same = settled p.say q.say p.kept q.kept in (
      p.tells.has_number ∙ ap number_of same.0 ∙ sym q.tells.has_number,
      p.tells.has_values ∙ ap (λ (s : Say). placed n (values_of s)) same.0 ∙ sym q.tells.has_values,
      same.1,
    )

module _ {x y : ℕ} {v w : List ℕ} where
  -- where the promise is an equation for what is said
  pub said_one : (n : ℕ) (o : Say) → Told n (λ say. say ≡ o) x v → Told n (λ say. say ≡ o) y w → (x ≡ y) × (v ≡ w)
  said_one n o p q = let same = told_one {Same = n ≡ n} (λ a b e f. (e ∙ sym f, refl)) p q in (same.0, same.1)

  -- where it is one for what is said and what is left in the buffer
  pub left_one : (n : ℕ) (o : Outcome) (s t : List ℕ) → Told n (λ say. outcome say s ≡ o) x v → Told n (λ say. outcome say t ≡ o) y w → (x ≡ y) × (v ≡ w) × (s ≡ t)
  left_one n o s t = told_one (λ a b e f. (ap (λ (z : Outcome). z.say) (e ∙ sym f), ap (λ (z : Outcome). z.out) (e ∙ sym f)))
