-- Two outcomes that the promise of a step allows are one: what is said tells the answer, and the places and lines tell the store.
-- Assumes nothing.
use Rattle.std.specs.Prelude.{◌≡◌, refl, ⊤, List, ℕ, Result, Ok, Err, length}
use Rattle.std.proofs.Common.{sym, ap, ◌∙◌}
use Rattle.outcome.specs.Say.{Say, done, refused}
use Rattle.calls.specs.Step.{Step, step}
use Rattle.calls.specs.Step.Same.{same_step}
use Rattle.circ.specs.Rings.{Rings, writer_rings}
use Rattle.circ.proofs.Rings.Known.{writer_known}
use Rattle.circ.specs.declared.CircError.{CircError}
use Rattle.circ.specs.Refusals.One.{error_of, error-back}
use Rattle.circ_writer.specs.Answers.{say_of}

answer_of : Say → Result ⊤ CircError
answer_of (done vs) = Ok tt
answer_of (refused n vs) = Err (error_of n)

told_back : (a : Result ⊤ CircError) → answer_of (say_of a) ≡ a
unfolding answer_of
told_back (Ok tt) = refl
told_back (Err e) = ap (λ (x : CircError). Err x) (error-back e)

-- an answer is known by what it says
pub say_of-one : (a b : Result ⊤ CircError) → say_of a ≡ say_of b → a ≡ b
say_of-one a b e = sym (told_back a) ∙ ap answer_of e ∙ told_back b

-- two outcomes that the promise of `step` allows coincide: answer, places, store and buffer
pub writer_one : (w : Step Rings) (a b : Result ⊤ CircError) (ps qs s t o u : List ℕ) → length s ≡ 1552 → length t ≡ 1552
    → step (say_of a) (writer_rings ps s) o ≡ w → step (say_of b) (writer_rings qs t) u ≡ w → (a ≡ b) × (ps ≡ qs) × (s ≡ t) × (o ≡ u)
writer_one w a b ps qs s t o u h k p q =
    let e = same_step p q in
    let known = writer_known ps qs s t h k e.1 in
    (say_of-one a b e.0, known.0, known.1, e.2)
