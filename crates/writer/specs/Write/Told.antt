-- What the writer says tells its answer, so that its promise allows one answer and one buffer.
-- Assumes nothing.
use Rattle.std.specs.Prelude.{◌≡◌, refl, ⊤, cond, List, ℕ, Result, Ok, Err, eqb}
use Rattle.std.proofs.Common.{sym, ap, ◌∙◌}
use Rattle.outcome.specs.Say.{Say, done, refused}
use Rattle.address.specs.declared.HeaderTime.{HeaderTime}
use Rattle.writer.specs.declared.WriteError.{WriteError}
use Rattle.writer.specs.declared.WriteError.TheVariants.{WrongOutgoing, UnwrittenMode, WrongIncoming, WrongAddress}
use Rattle.writer.specs.Write.{Writes, say_of}
use Rattle.writer.specs.Write.One.{write_one}

answer : Say → Result ⊤ WriteError
answer (done vs) = Ok tt
answer (refused n vs) = Err (cond (eqb n 1) WrongIncoming (cond (eqb n 2) WrongOutgoing (cond (eqb n 3) UnwrittenMode WrongAddress)))

told : (a : Result ⊤ WriteError) → answer (say_of a) ≡ a
unfolding answer
told (Ok w) = refl
told (Err WrongOutgoing) = refl
told (Err UnwrittenMode) = refl
told (Err WrongIncoming) = refl
told (Err WrongAddress) = refl

pub says-one : (a b : Result ⊤ WriteError) → say_of a ≡ say_of b → a ≡ b
says-one a b e = sym (told a) ∙ ap answer e ∙ told b

-- two outcomes that the promise of `write` allows coincide: the answer and the buffer
pub written_one : (mode : ℕ) (time : HeaderTime) (user old : List ℕ) (a b : Result ⊤ WriteError) {s t : List ℕ} → Writes mode time user old (say_of a) s
    → Writes mode time user old (say_of b) t → (a ≡ b) × (s ≡ t)
written_one mode time user old a b p q = let e = write_one mode time user old p q in (says-one a b e.0, e.1)
