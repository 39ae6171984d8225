-- Two outcomes that writing may have with the same fields and buffer are the same.
-- Assumes nothing.
use Rattle.std.specs.Prelude.{◌≡◌, refl, List, ℕ, Result, Ok, Err, ⊤}
use Rattle.std.proofs.Common.{sym, ap, ◌∙◌}
use Rattle.outcome.specs.Say.{Outcome, outcome}
use Rattle.control.specs.declared.Control.{Control}
use Rattle.control_writer.specs.declared.WriteControlError.{WriteControlError}
use Rattle.control_writer.specs.declared.WriteControlError.TheVariants.{WrongOutgoing, NotAllowed}
use Rattle.control_writer.specs.Writing.{say_of, writing}

-- the number says which answer it is
pub say_one : (a b : Result ⊤ WriteControlError) → say_of a ≡ say_of b → a ≡ b
say_one (Ok x) (Ok y) e = refl
say_one (Ok x) (Err WrongOutgoing) e = cc
say_one (Ok x) (Err NotAllowed) e = cc
say_one (Err WrongOutgoing) (Ok y) e = cc
say_one (Err WrongOutgoing) (Err WrongOutgoing) e = refl
say_one (Err WrongOutgoing) (Err NotAllowed) e = cc
say_one (Err NotAllowed) (Ok y) e = cc
say_one (Err NotAllowed) (Err WrongOutgoing) e = cc
say_one (Err NotAllowed) (Err NotAllowed) e = refl

pub write_one : (f : Control) (old s t : List ℕ) (a b : Result ⊤ WriteControlError) → outcome (say_of a) s ≡ writing f old → outcome (say_of b) t ≡ writing f old → (a ≡ b) × (s ≡ t)
write_one f old s t a b p q =
    let e = p ∙ sym q in
    (say_one a b (ap (λ (o : Outcome). o.say) e), ap (λ (o : Outcome). o.out) e)
