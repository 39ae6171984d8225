-- What replaying says tells its answer, so that its promise allows one answer, its values included, and one buffer.
-- Assumes nothing.
use Rattle.std.specs.Prelude.{◌≡◌, refl, cond, List, ℕ, Result, Ok, Err, eqb, get_or}
use Rattle.std.proofs.Common.{sym, ap, ◌∙◌}
use Rattle.outcome.specs.Say.{Say, done, refused, Outcome, outcome}
use Rattle.replaying.specs.Replay.{replaying}
use Rattle.replay.specs.declared.Replayed.{Replayed}
use Rattle.replay.specs.declared.ReplayError.{ReplayError}
use Rattle.replay.specs.declared.ReplayError.TheVariants.{WrongIncoming, WrongOutgoing, IllegalRun, NoHeader}
use Rattle.replay.specs.Answers.{say_of}
use Rattle.replay.specs.FromEdge.{replaying_from}

answer : Say → Result Replayed ReplayError
answer (done vs) = Ok (record { used = get_or vs 0 0; frames = get_or vs 1 0 })
answer (refused n vs) = Err (cond (eqb n 1) WrongIncoming (cond (eqb n 2) WrongOutgoing (cond (eqb n 20) (IllegalRun (get_or vs 0 0)) NoHeader)))

told : (a : Result Replayed ReplayError) → answer (say_of a) ≡ a
unfolding answer
told (Ok made) = refl
told (Err WrongIncoming) = refl
told (Err WrongOutgoing) = refl
told (Err (IllegalRun i)) = refl
told (Err NoHeader) = refl

told_one : (o : Outcome) (a b : Result Replayed ReplayError) (s t : List ℕ) → outcome (say_of a) s ≡ o → outcome (say_of b) t ≡ o → (a ≡ b) × (s ≡ t)
told_one o a b s t p q =
    let e : outcome (say_of a) s ≡ outcome (say_of b) t = p ∙ sym q in
    (sym (told a) ∙ ap (λ (o : Outcome). answer o.say) e ∙ told b, ap (λ (o : Outcome). o.out) e)

-- two outcomes that the promise of `replay` allows coincide
pub replayed_one : (capture old : List ℕ) (a b : Result Replayed ReplayError) (s t : List ℕ) → outcome (say_of a) s ≡ replaying capture old
    → outcome (say_of b) t ≡ replaying capture old → (a ≡ b) × (s ≡ t)
replayed_one capture old = told_one (replaying capture old)

-- and two that the promise of `play` allows, at edge k
pub played_one : (capture old : List ℕ) (k : ℕ) (a b : Result Replayed ReplayError) (s t : List ℕ) → outcome (say_of a) s ≡ replaying_from capture k old
    → outcome (say_of b) t ≡ replaying_from capture k old → (a ≡ b) × (s ≡ t)
played_one capture old k = told_one (replaying_from capture k old)
