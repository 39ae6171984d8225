-- ONE: two outcomes of a write that the promise of `SectionWriter::write` allows are the same: the answer, the next state and every outgoing byte.
-- Assumes nothing.
use Rattle.std.specs.Prelude.{◌≡◌, refl, ⊤, cond, List, ℕ, Result, Ok, Err, eqb}
use Rattle.std.proofs.Common.{sym, ap, ◌∙◌}
use Rattle.outcome.specs.Say.{Say, done, refused}
use Rattle.calls.specs.Step.{Step, step}
use Rattle.section_writer.specs.declared.SectionStep.{SectionStep}
use Rattle.section_writer.specs.declared.SectionWriter.{SectionWriter}
use Rattle.section_writer.specs.declared.WriteSectionError.{WriteSectionError}
use Rattle.section_writer.specs.declared.WriteSectionError.TheVariants.{WrongIncoming, WrongOutgoing, ImpossibleState, DiscFull}
use Rattle.section_writer.specs.WriteSay.{say_of, written}

-- the answer that says so
answer : Say → Result ⊤ WriteSectionError
answer (done vs) = Ok tt
answer (refused n vs) = Err (cond (eqb n 1) WrongIncoming (cond (eqb n 2) WrongOutgoing (cond (eqb n 7) DiscFull ImpossibleState)))

told : (a : Result ⊤ WriteSectionError) → answer (say_of a) ≡ a
unfolding answer
told (Ok w) = refl
told (Err WrongIncoming) = refl
told (Err WrongOutgoing) = refl
told (Err ImpossibleState) = refl
told (Err DiscFull) = refl

-- an answer is told by what it says
pub says-one : (a b : Result ⊤ WriteSectionError) → say_of a ≡ say_of b → a ≡ b
says-one a b e = sym (told a) ∙ ap answer e ∙ told b

-- what a call hands back, and what its buffer then holds
pub write_one : (s : SectionWriter) (frames control out o p : List ℕ) (q r : SectionStep)
    → step (say_of q.answer) q.next o ≡ written s frames control out → step (say_of r.answer) r.next p ≡ written s frames control out → (q ≡ r) × (o ≡ p)
write_one s frames control out o p q r a b =
    let e = a ∙ sym b in
    let says = says-one q.answer r.answer (ap (λ (t : Step SectionWriter). t.say) e) in
    (λ i. record { next = (e i).next; answer = says i }, ap (λ (t : Step SectionWriter). t.out) e)
