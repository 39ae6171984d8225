-- What judging says tells its answer, so that its promise allows one answer.
-- Assumes nothing.
use Rattle.std.specs.Prelude.{◌≡◌, refl, cond, List, ℕ, Result, Ok, Err, eqb, get_or}
use Rattle.std.proofs.Common.{sym, ap, ◌∙◌}
use Rattle.outcome.specs.Say.{Say, done, refused}
use Rattle.address.specs.declared.HeaderTime.{HeaderTime}
use Rattle.judge.specs.declared.Passed.{Passed}
use Rattle.judge.specs.declared.JudgeError.{JudgeError}
use Rattle.judge.specs.declared.JudgeError.TheVariants.{WrongIncoming, WrongSync, UnknownMode, WrongAddress, WrongEdc, WrongIntermediate, WrongP, WrongQ, WrongFiller}
use Rattle.judge.specs.Judging.{passing, judging, say_of}

-- the answer that a number and its values stand for
refusal : ℕ → List ℕ → JudgeError
refusal n vs =
    cond (eqb n 1) WrongIncoming
    (cond (eqb n 3) UnknownMode
    (cond (eqb n 4) WrongAddress
    (cond (eqb n 10) WrongSync
    (cond (eqb n 11) WrongEdc
    (cond (eqb n 12) WrongIntermediate
    (cond (eqb n 13) (WrongP (get_or vs 0 0))
    (cond (eqb n 14) (WrongQ (get_or vs 0 0))
    WrongFiller)))))))

answer : Say → Result Passed JudgeError
answer (done vs) = Ok (record { mode = get_or vs 0 0; time = record { 0 = get_or vs 1 0; 1 = get_or vs 2 0; 2 = get_or vs 3 0 } })
answer (refused n vs) = Err (refusal n vs)

told : (a : Result Passed JudgeError) → answer (say_of a) ≡ a
unfolding refusal answer
told (Ok passed) = refl
told (Err WrongIncoming) = refl
told (Err WrongSync) = refl
told (Err UnknownMode) = refl
told (Err WrongAddress) = refl
told (Err WrongEdc) = refl
told (Err WrongIntermediate) = refl
told (Err (WrongP n)) = refl
told (Err (WrongQ n)) = refl
told (Err WrongFiller) = refl

pub says-one : (a b : Result Passed JudgeError) → say_of a ≡ say_of b → a ≡ b
says-one a b e = sym (told a) ∙ ap answer e ∙ told b

passed_one : {p q : Passed} → ◌≡◌ {A = Result Passed JudgeError} (Ok p) (Ok q) → p ≡ q
passed_one e = cc

-- what comes back with a Sector that passes tells its mode and its address
pub passing-one : (m n : ℕ) (t u : HeaderTime) → passing m t ≡ passing n u → (m ≡ n) × (t ≡ u)
passing-one m n t u e =
    let same = passed_one (says-one (Ok (record { mode = m; time = t })) (Ok (record { mode = n; time = u })) e) in
    (ap (λ (p : Passed). p.mode) same, ap (λ (p : Passed). p.time) same)

-- two answers that the promise of `judge` allows coincide
pub judged-one : (s : List ℕ) (a b : Result Passed JudgeError) → say_of a ≡ judging s → say_of b ≡ judging s → a ≡ b
judged-one s a b p q = says-one a b (p ∙ sym q)
