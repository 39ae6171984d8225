-- ONE: two answers that the promise of `judge_sections` allows are the same.
-- Assumes nothing.
use Rattle.std.specs.Prelude.{◌≡◌, refl, cond, List, ℕ, Result, Ok, Err, ⊤, eqb, get_or}
use Rattle.std.proofs.Common.{sym, ap, ◌∙◌}
use Rattle.outcome.specs.Say.{Say, done, refused}
use Rattle.stream_rules.specs.Judging.{judging}
use Rattle.stream_judge.specs.declared.JudgeSectionsError.{JudgeSectionsError}
use Rattle.stream_judge.specs.declared.JudgeSectionsError.TheVariants.{WrongIncoming, WrongRun, WrongHeader, WrongWord}
use Rattle.stream_judge.specs.Answers.{say_of}

-- the answer that says so
answer : Say → Result ⊤ JudgeSectionsError
answer (done vs) = Ok tt
answer (refused n vs) =
    cond (eqb n 1) (Err WrongIncoming)
    (cond (eqb n 25) (Err (WrongRun (get_or vs 0 0))) (cond (eqb n 26) (Err (WrongHeader (get_or vs 0 0))) (Err (WrongWord (get_or vs 0 0)))))

told : (a : Result ⊤ JudgeSectionsError) → answer (say_of a) ≡ a
unfolding answer
told (Ok w) = refl
told (Err WrongIncoming) = refl
told (Err (WrongRun p)) = refl
told (Err (WrongHeader p)) = refl
told (Err (WrongWord p)) = refl

-- an answer is told by what it says
pub says-one : (a b : Result ⊤ JudgeSectionsError) → say_of a ≡ say_of b → a ≡ b
says-one a b e = sym (told a) ∙ ap answer e ∙ told b

-- and there is one
pub judged-one : (channel : List ℕ) (a b : Result ⊤ JudgeSectionsError) → say_of a ≡ judging channel → say_of b ≡ judging channel → a ≡ b
judged-one channel a b p q = says-one a b (p ∙ sym q)
