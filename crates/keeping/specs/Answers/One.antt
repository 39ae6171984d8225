-- What keeping says tells its answer, so that its promise allows one answer, used length included, and one buffer.
-- Assumes nothing.
use Rattle.std.specs.Prelude.{◌≡◌, refl, cond, List, ℕ, Result, Ok, Err, eqb, get_or}
use Rattle.std.proofs.Common.{sym, ap, ◌∙◌}
use Rattle.outcome.specs.Say.{Say, done, refused, Outcome, outcome}
use Rattle.captures.specs.Kept.{keeping}
use Rattle.keeping.specs.declared.ListError.{ListError}
use Rattle.keeping.specs.declared.ListError.TheVariants.{WrongIncoming, WrongOutgoing}
use Rattle.keeping.specs.Answers.{say_of}

answer : Say → Result ℕ ListError
answer (done vs) = Ok (get_or vs 0 0)
answer (refused n vs) = Err (cond (eqb n 1) WrongIncoming WrongOutgoing)

told : (a : Result ℕ ListError) → answer (say_of a) ≡ a
unfolding answer
told (Ok used) = refl
told (Err WrongIncoming) = refl
told (Err WrongOutgoing) = refl

-- two outcomes that the promise of `runs_of` allows coincide
pub kept-one : (capture old : List ℕ) (a b : Result ℕ ListError) (s t : List ℕ) → outcome (say_of a) s ≡ keeping capture old → outcome (say_of b) t ≡ keeping capture old
    → (a ≡ b) × (s ≡ t)
kept-one capture old a b s t p q =
    let e : outcome (say_of a) s ≡ outcome (say_of b) t = p ∙ sym q in
    (sym (told a) ∙ ap (λ (o : Outcome). answer o.say) e ∙ told b, ap (λ (o : Outcome). o.out) e)
