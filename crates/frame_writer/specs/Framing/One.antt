-- Two outcomes that the promise of writing allows coincide: the answer and the buffer.
-- Assumes nothing.
use Rattle.std.specs.Prelude.{◌≡◌, refl, ⊤, cond, List, ℕ, Result, Ok, Err, eqb}
use Rattle.std.proofs.Common.{sym, ap, ◌∙◌}
use Rattle.outcome.specs.Say.{Say, done, refused}
use Rattle.outcome.specs.Say.Refusals.{never}
use Rattle.data_frame.specs.declared.Fields.{Fields}
use Rattle.data_frame.specs.DataFrame.One.{frame-one}
use Rattle.frame_writer.specs.declared.WriteFrameError.{WriteFrameError}
use Rattle.frame_writer.specs.declared.WriteFrameError.TheVariants.{WrongIncoming, WrongOutgoing}
use Rattle.frame_writer.specs.Framing.{Frames, refuses, frames, say_of}

pub framing_one : {fields : Fields} {main old : List ℕ} {a b : Say} {s t : List ℕ} → Frames fields main old a s → Frames fields main old b t → (a ≡ b) × (s ≡ t)
framing_one (refuses e) (refuses f) = (sym e ∙ f, refl)
framing_one (refuses e) (frames f q) = never (sym e ∙ f)
framing_one (frames e p) (refuses f) = never (sym f ∙ e)
framing_one (frames e p) (frames f q) = (refl, frame-one p q)

answer : Say → Result ⊤ WriteFrameError
answer (done vs) = Ok _
answer (refused n vs) = Err (cond (eqb n 1) WrongIncoming WrongOutgoing)

told : (a : Result ⊤ WriteFrameError) → answer (say_of a) ≡ a
unfolding answer
told (Ok w) = refl
told (Err WrongIncoming) = refl
told (Err WrongOutgoing) = refl

pub frame-written-one : {fields : Fields} {main old : List ℕ} (a b : Result ⊤ WriteFrameError) {s t : List ℕ} → Frames fields main old (say_of a) s
    → Frames fields main old (say_of b) t → (a ≡ b) × (s ≡ t)
frame-written-one a b p q = let e = framing_one p q in (sym (told a) ∙ ap answer e.0 ∙ told b, e.1)
