-- What each export promises allows one outcome: `told_one` with the law of the entry that it hands over to, and `said_one` for judging; of a batch see `Batches`.
-- Assumes nothing.
use Rattle.std.specs.Prelude.{◌≡◌, List, ℕ}
use Rattle.std.proofs.Common.{sym, ap, ◌∙◌}
use Rattle.outcome.specs.Say.{Outcome, outcome}
use Rattle.address.specs.declared.HeaderTime.{HeaderTime}
use Rattle.writer.specs.Write.{Writes}
use Rattle.writer.specs.Write.One.{write_one}
use Rattle.repair.specs.Repair.{Repairs}
use Rattle.repair.specs.Repair.One.{repair_one}
use Rattle.salvaging.specs.Salvage.{Salvages}
use Rattle.salvaging.proofs.Salvage.One.{salvages_one}
use Rattle.data_frame.specs.declared.Fields.{Fields}
use Rattle.frame_reader.specs.Reading.{reading}
use Rattle.frame_writer.specs.Framing.{Frames}
use Rattle.frame_writer.specs.Framing.One.{framing_one}
use Rattle.carrying.specs.Carry.{Carries}
use Rattle.carrying.specs.Carry.One.{carry_one}
use Rattle.told.specs.Told.{Told}
use Rattle.told.proofs.Told.One.{told_one}

module _ {x y : ℕ} {v w : List ℕ} where
  -- writing a Sector
  pub written_one : (mode : ℕ) (time : HeaderTime) (user old s t : List ℕ) → Told 0 (λ say. Writes mode time user old say s) x v
      → Told 0 (λ say. Writes mode time user old say t) y w → (x ≡ y) × (v ≡ w) × (s ≡ t)
  written_one mode time user old s t = told_one (λ a b p q. write_one mode time user old p q)

  -- repair, with the number of bytes changed
  pub repaired_one : (received old s t : List ℕ) → Told 1 (λ say. Repairs received old say s) x v → Told 1 (λ say. Repairs received old say t) y w
      → (x ≡ y) × (v ≡ w) × (s ≡ t)
  repaired_one received old s t = told_one (λ a b p q. repair_one received old p q)

  -- the Sector and the list of changes
  pub salvaged_one : (received : List ℕ) (passes : ℕ) (old changed s t l m : List ℕ) → Told 2 (λ say. Salvages received passes old changed say s l) x v
      → Told 2 (λ say. Salvages received passes old changed say t m) y w → (x ≡ y) × (v ≡ w) × ((s ≡ t) × (l ≡ m))
  salvaged_one received passes old changed s t l m =
      told_one (λ a b p q. let e = salvages_one received passes old changed p q in (e.says, (e.sector, e.list)))

  -- Data Frames: reading with the fields, writing, and carrying over
  pub frame_read_one : (frame old s t : List ℕ) → Told 13 (λ say. outcome say s ≡ reading frame old) x v → Told 13 (λ say. outcome say t ≡ reading frame old) y w
      → (x ≡ y) × (v ≡ w) × (s ≡ t)
  frame_read_one frame old s t = told_one (λ a b e f. (ap (λ (z : Outcome). z.say) (e ∙ sym f), ap (λ (z : Outcome). z.out) (e ∙ sym f)))

  pub frame-written-one : (fields : Fields) (main old s t : List ℕ) → Told 0 (λ say. Frames fields main old say s) x v
      → Told 0 (λ say. Frames fields main old say t) y w → (x ≡ y) × (v ≡ w) × (s ≡ t)
  frame-written-one fields main old s t = told_one (λ a b p q. framing_one p q)

  pub carried_one : (frames : List ℕ) (start : HeaderTime) (old s t : List ℕ) → Told 0 (λ say. Carries frames start old say s) x v
      → Told 0 (λ say. Carries frames start old say t) y w → (x ≡ y) × (v ≡ w) × (s ≡ t)
  carried_one frames start old s t = told_one (λ a b p q. carry_one p q)
