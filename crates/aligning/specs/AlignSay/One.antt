-- The promise of `align` determines its answer and every byte of the outgoing buffer.
-- Assumes nothing.
use Rattle.std.specs.Prelude.{◌≡◌, refl, ⊤, List, ℕ, Result, Ok, Err}
use Rattle.std.proofs.Common.{sym, ap, ◌∙◌}
use Rattle.outcome.specs.Say.{Outcome, outcome}
use Rattle.alignment.specs.Aligned.{aligning}
use Rattle.aligning.specs.declared.AlignError.{AlignError}
use Rattle.aligning.specs.declared.AlignError.TheVariants.{WrongIncoming, UnknownPlace, WrongOutgoing}
use Rattle.aligning.specs.AlignSay.{say_of}

-- an answer is known by its number
pub say_of-one : (a b : Result ⊤ AlignError) → say_of a ≡ say_of b → a ≡ b
say_of-one (Ok v) (Ok w) e = refl
say_of-one (Ok v) (Err WrongIncoming) e = cc
say_of-one (Ok v) (Err UnknownPlace) e = cc
say_of-one (Ok v) (Err WrongOutgoing) e = cc
say_of-one (Err WrongIncoming) (Ok w) e = cc
say_of-one (Err WrongIncoming) (Err WrongIncoming) e = refl
say_of-one (Err WrongIncoming) (Err UnknownPlace) e = cc
say_of-one (Err WrongIncoming) (Err WrongOutgoing) e = cc
say_of-one (Err UnknownPlace) (Ok w) e = cc
say_of-one (Err UnknownPlace) (Err WrongIncoming) e = cc
say_of-one (Err UnknownPlace) (Err UnknownPlace) e = refl
say_of-one (Err UnknownPlace) (Err WrongOutgoing) e = cc
say_of-one (Err WrongOutgoing) (Ok w) e = cc
say_of-one (Err WrongOutgoing) (Err WrongIncoming) e = cc
say_of-one (Err WrongOutgoing) (Err UnknownPlace) e = cc
say_of-one (Err WrongOutgoing) (Err WrongOutgoing) e = refl

-- two outcomes that the promise allows coincide
pub align_one : (s : List ℕ) (n : ℕ) (old : List ℕ) (a b : Result ⊤ AlignError) (x y : List ℕ) → outcome (say_of a) x ≡ aligning s n old
    → outcome (say_of b) y ≡ aligning s n old → (a ≡ b) × (x ≡ y)
align_one s n old a b x y p q =
    let e : outcome (say_of a) x ≡ outcome (say_of b) y = p ∙ sym q in
    (say_of-one a b (ap (λ (o : Outcome). o.say) e), ap (λ (o : Outcome). o.out) e)
