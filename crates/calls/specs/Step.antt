-- A step of something that carries a state: what it says, the state that it hands back, and what its outgoing buffer then holds.
-- "A refused step hands back the state as it was" (document 01, "Numbers that come back").
-- Assumes nothing.
use Rattle.std.specs.Prelude.{Bool, true, false, List, ℕ}
use Rattle.outcome.specs.Say.{Say, done, refused, leaves}
pub mod Kept
pub mod Same

pub record Step (S : Type 0) : Type 0 where
  pub say : Say
  pub next : S
  pub out : List ℕ

abbrev pub step : {S : Type 0} → Say → S → List ℕ → Step S
step say next out = record { say = say; next = next; out = out }

-- whether it was done
abbrev pub is_done : Say → Bool
is_done (done vs) = true
is_done (refused n vs) = false

-- the state that is handed back: the new one if the step is done, and after a refusal the state as it was
abbrev pub handed_back : {S : Type 0} → Say → S → S → S
handed_back (done vs) new old = new
handed_back (refused n vs) new old = old

-- a step whose answer is `say`: the right length of its buffer, the bytes and the state that it makes where it is done, and the state and the
-- buffer before it
abbrev pub step_of : {S : Type 0} → Say → ℕ → List ℕ → S → S → List ℕ → Step S
step_of say right new next s old = step say (handed_back say next s) (leaves say right new old)
