-- What salvage says tells its answer, so that its promise allows one answer, and one Sector and one list.
-- Assumes nothing.
use Rattle.std.specs.Prelude.{◌≡◌, refl, cond, List, ℕ, eqb, get_or, Result, Ok, Err}
use Rattle.std.proofs.Common.{sym, ap, ◌∙◌}
use Rattle.outcome.specs.Say.{Say, done, refused}
use Rattle.salvaging.specs.Salvage.{Salvages}
use Rattle.salvaging.proofs.Salvage.One.{salvages_one}
use Rattle.salvage.specs.declared.Salvaged.{Salvaged}
use Rattle.salvage.specs.declared.SalvageError.{SalvageError}
use Rattle.salvage.specs.declared.SalvageError.TheVariants.{WrongIncoming, WrongOutgoing, WrongPasses, NoneCorrect}
use Rattle.salvage.specs.Answers.{say_of}

answer : Say → Result Salvaged SalvageError
answer (done vs) = Ok (record { passes = get_or vs 0 0; changes = get_or vs 1 0 })
answer (refused n vs) = Err (cond (eqb n 1) WrongIncoming (cond (eqb n 2) WrongOutgoing (cond (eqb n 22) WrongPasses NoneCorrect)))

told : (a : Result Salvaged SalvageError) → answer (say_of a) ≡ a
unfolding answer
told (Ok s) = refl
told (Err WrongIncoming) = refl
told (Err WrongOutgoing) = refl
told (Err WrongPasses) = refl
told (Err NoneCorrect) = refl

says-one : (a b : Result Salvaged SalvageError) → say_of a ≡ say_of b → a ≡ b
says-one a b e = sym (told a) ∙ ap answer e ∙ told b

-- two outcomes that the promise of `salvage` allows coincide: the answer with its numbers, the Sector and the list
pub salvaged_one : (r : List ℕ) (allowed : ℕ) (old changed : List ℕ) (a b : Result Salvaged SalvageError) {s t l m : List ℕ} → Salvages r allowed old changed (say_of a) s l
    → Salvages r allowed old changed (say_of b) t m → (a ≡ b) × (s ≡ t) × (l ≡ m)
salvaged_one r allowed old changed a b p q =
    let e = salvages_one r allowed old changed p q in (says-one a b e.says, e.sector, e.list)
