-- What repair says tells its answer, so that its promise allows one answer, count included, and one buffer.
-- Assumes nothing.
use Rattle.std.specs.Prelude.{◌≡◌, refl, cond, List, ℕ, Result, Ok, Err, eqb, get_or}
use Rattle.std.proofs.Common.{sym, ap, ◌∙◌}
use Rattle.outcome.specs.Say.{Say, done, refused}
use Rattle.repair.specs.declared.RepairError.{RepairError}
use Rattle.repair.specs.declared.RepairError.TheVariants.{WrongIncoming, WrongOutgoing, NoSectorNear}
use Rattle.repair.specs.Repair.{Repairs, say_of}
use Rattle.repair.specs.Repair.One.{repair_one}

answer : Say → Result ℕ RepairError
answer (done vs) = Ok (get_or vs 0 0)
answer (refused n vs) = Err (cond (eqb n 1) WrongIncoming (cond (eqb n 2) WrongOutgoing NoSectorNear))

told : (a : Result ℕ RepairError) → answer (say_of a) ≡ a
unfolding answer
told (Ok changed) = refl
told (Err WrongIncoming) = refl
told (Err WrongOutgoing) = refl
told (Err NoSectorNear) = refl

pub says-one : (a b : Result ℕ RepairError) → say_of a ≡ say_of b → a ≡ b
says-one a b e = sym (told a) ∙ ap answer e ∙ told b

-- two outcomes that the promise of `repair` allows coincide: the answer with its count, and the buffer
pub repaired_one : (r old : List ℕ) (a b : Result ℕ RepairError) {s t : List ℕ} → Repairs r old (say_of a) s → Repairs r old (say_of b) t → (a ≡ b) × (s ≡ t)
repaired_one r old a b p q = let e = repair_one r old p q in (says-one a b e.0, e.1)
