-- What each export promises allows one outcome: `told_one` with the law of the entry that it hands over to, `step-one` of told for writing a Section, `said_one` for judging and
-- `left_one` for keeping and replaying; of Control bytes see control_told.
-- Assumes nothing.
use Rattle.std.specs.Prelude.{◌≡◌, List, ℕ}
use Rattle.std.proofs.Common.{sym, ap, ◌∙◌}
use Rattle.section_reader.specs.ReadSay.{ReadOut, read_out}
use Rattle.captures.specs.Kept.{Restores}
use Rattle.captures.specs.Kept.One.{restored-one as captures-one}
use Rattle.told.specs.Told.{Told}
use Rattle.told.proofs.Told.One.{told_one}

module _ {x y : ℕ} {v w : List ℕ} where
  -- reading a Section, bytes and marks
  pub read_one : (o : ReadOut) (s t m n : List ℕ) → Told 0 (λ say. read_out say s m ≡ o) x v → Told 0 (λ say. read_out say t n ≡ o) y w
      → (x ≡ y) × (v ≡ w) × ((s ≡ t) × (m ≡ n))
  read_one o s t m n =
      told_one (λ a b e f. (ap (λ (z : ReadOut). z.say) (e ∙ sym f), (ap (λ (z : ReadOut). z.bytes) (e ∙ sym f), ap (λ (z : ReadOut). z.marks) (e ∙ sym f))))

  -- restoring a capture, with its used length
  pub restored-one : (l old s t : List ℕ) → Told 1 (λ say. Restores l old say s) x v → Told 1 (λ say. Restores l old say t) y w
      → (x ≡ y) × (v ≡ w) × (s ≡ t)
  restored-one l old s t = told_one (λ a b p q. captures-one l old p q)
