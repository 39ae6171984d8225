-- What restoring says tells its answer, so that its promise allows one answer, used length included, and one buffer.
-- Assumes nothing.
use Rattle.std.specs.Prelude.{◌≡◌, ℕ, cond, List, Result, Ok, Err, ◌==◌, slice_index, refl}
use Rattle.std.proofs.Common.{sym, ap, ◌∙◌}
use Rattle.outcome.specs.Say.{Say, done, refused}
use Rattle.captures.specs.Kept.{Restores}
use Rattle.captures.specs.Kept.One.{restored-one}
use Rattle.restoring.specs.declared.RestoreError.{RestoreError}
use Rattle.restoring.specs.declared.RestoreError.TheVariants.{WrongIncoming, WrongOutgoing, WrongNumber}
use Rattle.restoring.specs.Answers.{say_of}

answer : Say → Result ℕ RestoreError
answer (done vs) = Ok (slice_index vs 0)
answer (refused n vs) = Err (cond (n == 1) WrongIncoming (cond (n == 2) WrongOutgoing WrongNumber))

told : (a : Result ℕ RestoreError) → answer (say_of a) ≡ a
unfolding answer
told (Ok used) = refl
told (Err WrongIncoming) = refl
told (Err WrongOutgoing) = refl
told (Err WrongNumber) = refl

-- two outcomes that the promise of `capture_of` allows coincide
pub recaptured_one : (l old : List ℕ) (a b : Result ℕ RestoreError) {s t : List ℕ} → Restores l old (say_of a) s → Restores l old (say_of b) t → (a ≡ b) × (s ≡ t)
recaptured_one l old a b p q =
    let e = restored-one l old p q in
    (sym (told a) ∙ ap answer e.0 ∙ told b, e.1)
