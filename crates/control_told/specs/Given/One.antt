-- What these two calls promise allows one outcome.
-- Assumes nothing.
use Rattle.std.specs.Prelude.{◌≡◌, refl, List, ℕ}
use Rattle.std.proofs.Common.{sym, ap, ◌∙◌}
use Rattle.outcome.specs.Say.{Outcome, outcome}
use Rattle.told.specs.Told.{Told}
use Rattle.told.proofs.Told.One.{told_one}
use Rattle.control.specs.declared.Control.{Control}
use Rattle.control_writer.specs.Writing.{writing}
use Rattle.control_reader.specs.Reading.{Reads}
use Rattle.control_reader.specs.Reading.One.{said_one}

module _ {x y : ℕ} {v w : List ℕ} where
  pub control_written_one : (f : Control) (old s t : List ℕ) → Told 0 (λ say. outcome say s ≡ writing f old) x v → Told 0 (λ say. outcome say t ≡ writing f old) y w
      → (x ≡ y) × (v ≡ w) × (s ≡ t)
  control_written_one f old s t = told_one (λ a b p q. (ap (λ (o : Outcome). o.say) (p ∙ sym q), ap (λ (o : Outcome). o.out) (p ∙ sym q)))

  pub control_read_one : (bytes : List ℕ) → Told 11 (λ say. Reads bytes say) x v → Told 11 (λ say. Reads bytes say) y w → (x ≡ y) × (v ≡ w)
  control_read_one bytes p q = let same = told_one {Same = x ≡ x} (λ a b e f. (said_one bytes a b e f, refl)) p q in (same.0, same.1)
