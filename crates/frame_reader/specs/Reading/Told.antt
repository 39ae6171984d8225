-- What reading says tells its answer, so that its promise allows one answer and one buffer.
-- Assumes nothing.
use Rattle.std.specs.Prelude.{◌≡◌, refl, cond, List, ℕ, Result, Ok, Err, eqb}
use Rattle.std.proofs.Common.{sym, ap, ◌∙◌}
use Rattle.outcome.specs.Say.{Say, done, refused, Outcome, outcome}
use Rattle.data_frame.specs.DataFrame.{fields_from}
use Rattle.data_frame.specs.DataFrame.Values.{values-back}
use Rattle.data_frame.specs.declared.Fields.{Fields}
use Rattle.frame_reader.specs.declared.ReadFrameError.{ReadFrameError}
use Rattle.frame_reader.specs.declared.ReadFrameError.TheVariants.{WrongIncoming, WrongOutgoing, WrongIdentification, WrongEdc, ReservedBit}
use Rattle.frame_reader.specs.Reading.{reading, say_of}

answer : Say → Result Fields ReadFrameError
answer (done vs) = Ok (fields_from vs)
answer (refused n vs) =
    Err (cond (eqb n 1) WrongIncoming (cond (eqb n 2) WrongOutgoing (cond (eqb n 28) WrongIdentification (cond (eqb n 29) WrongEdc ReservedBit))))

told : (a : Result Fields ReadFrameError) → answer (say_of a) ≡ a
unfolding answer
told (Ok fields) = ap Ok (values-back fields)
told (Err WrongIncoming) = refl
told (Err WrongOutgoing) = refl
told (Err WrongIdentification) = refl
told (Err WrongEdc) = refl
told (Err ReservedBit) = refl

pub says-one : (a b : Result Fields ReadFrameError) → say_of a ≡ say_of b → a ≡ b
says-one a b e = sym (told a) ∙ ap answer e ∙ told b

-- two outcomes that the promise of `read_frame` allows coincide: the answer with its fields, and the buffer
pub frame_read_one : (frame old : List ℕ) (a b : Result Fields ReadFrameError) (x y : List ℕ) → outcome (say_of a) x ≡ reading frame old → outcome (say_of b) y ≡ reading frame old
    → (a ≡ b) × (x ≡ y)
frame_read_one frame old a b x y p q =
    let e : outcome (say_of a) x ≡ outcome (say_of b) y = p ∙ sym q in
    (says-one a b (ap (λ (o : Outcome). o.say) e), ap (λ (o : Outcome). o.out) e)
