-- The answers of replaying a capture as numbers and values (document 02, §5: 1, 2, 20, 21).
-- Assumes nothing.
use Rattle.std.specs.Prelude.{List, [], ◌∷◌, ℕ, Result, Ok, Err}
use Rattle.outcome.specs.Say.{Say, done, refused}
use Rattle.replay.specs.declared.Replayed.{Replayed}
use Rattle.replay.specs.declared.ReplayError.{ReplayError}
use Rattle.replay.specs.declared.ReplayError.TheVariants.{WrongIncoming, WrongOutgoing, IllegalRun, NoHeader}
pub mod One

abbrev pub refusal_of : ReplayError → ℕ
refusal_of WrongIncoming = 1
refusal_of WrongOutgoing = 2
refusal_of (IllegalRun i) = 20
refusal_of NoHeader = 21

-- the values that come with a refusal: the index of an illegal run
abbrev pub values_with : ReplayError → List ℕ
values_with WrongIncoming = []
values_with WrongOutgoing = []
values_with (IllegalRun i) = i ∷ []
values_with NoHeader = []

-- document 01's number and values for each answer: with the frames come the used length and their number
abbrev pub say_of : Result Replayed ReplayError → Say
say_of (Ok made) = done (made.used ∷ made.frames ∷ [])
say_of (Err e) = refused (refusal_of e) (values_with e)
