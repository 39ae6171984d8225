-- ONE: two outcomes of a reading that the promise of `read_section` allows are the same.
-- Assumes nothing.
use Rattle.std.specs.Prelude.{◌≡◌, refl, ⊤, cond, List, ℕ, Result, Ok, Err, eqb}
use Rattle.std.proofs.Common.{sym, ap, ◌∙◌}
use Rattle.outcome.specs.Say.{Say, done, refused}
use Rattle.section_reader.specs.declared.ReadSectionError.{ReadSectionError}
use Rattle.section_reader.specs.declared.ReadSectionError.TheVariants.{WrongIncoming, WrongOutgoing}
use Rattle.section_reader.specs.ReadSay.{say_of, ReadOut, read_out, section_read}

-- the answer that says so
answer : Say → Result ⊤ ReadSectionError
answer (done vs) = Ok tt
answer (refused n vs) = Err (cond (eqb n 1) WrongIncoming WrongOutgoing)

told : (a : Result ⊤ ReadSectionError) → answer (say_of a) ≡ a
unfolding answer
told (Ok w) = refl
told (Err WrongIncoming) = refl
told (Err WrongOutgoing) = refl

-- an answer is told by what it says
pub says-one : (a b : Result ⊤ ReadSectionError) → say_of a ≡ say_of b → a ≡ b
says-one a b e = sym (told a) ∙ ap answer e ∙ told b

-- for the same Channel bits and buffers the promise allows one answer, one list of bytes and one of marks
pub read_one : (channel bytes marks : List ℕ) (a b : Result ⊤ ReadSectionError) (x y u v : List ℕ) → read_out (say_of a) x u ≡ section_read channel bytes marks
    → read_out (say_of b) y v ≡ section_read channel bytes marks → (a ≡ b) × (x ≡ y) × (u ≡ v)
read_one channel bytes marks a b x y u v p q =
    let e = p ∙ sym q in
    (says-one a b (ap (λ (o : ReadOut). o.say) e), ap (λ (o : ReadOut). o.bytes) e, ap (λ (o : ReadOut). o.marks) e)
