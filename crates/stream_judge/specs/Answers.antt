-- What judging Sections answers, as document 02's number and values (§12: 1, 25 run, 26 header missing or extra, 27 word or SYNC).
-- Assumes nothing.
use Rattle.std.specs.Prelude.{List, [], ◌∷◌, ℕ, Result, Ok, Err, ⊤}
use Rattle.outcome.specs.Say.{Say, done, refused}
use Rattle.stream_judge.specs.declared.JudgeSectionsError.{JudgeSectionsError}
use Rattle.stream_judge.specs.declared.JudgeSectionsError.TheVariants.{WrongIncoming, WrongRun, WrongHeader, WrongWord}
pub mod One

abbrev pub refusal_of : JudgeSectionsError → ℕ
refusal_of WrongIncoming = 1
refusal_of (WrongRun p) = 25
refusal_of (WrongHeader p) = 26
refusal_of (WrongWord p) = 27

-- the values that come with a refusal: the bit position of an offence
abbrev pub values_with : JudgeSectionsError → List ℕ
values_with WrongIncoming = []
values_with (WrongRun p) = p ∷ []
values_with (WrongHeader p) = p ∷ []
values_with (WrongWord p) = p ∷ []

-- number and values for each answer
abbrev pub say_of : Result ⊤ JudgeSectionsError → Say
say_of (Ok w) = done []
say_of (Err e) = refused (refusal_of e) (values_with e)
