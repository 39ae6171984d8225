-- What `align` answers (document 02, §11).
-- Assumes nothing.
use Rattle.std.specs.Prelude.{⊤, [], ℕ, Result}
use Rattle.outcome.specs.Say.{Say, said_by}
use Rattle.aligning.specs.declared.AlignError.{AlignError}
use Rattle.aligning.specs.declared.AlignError.TheVariants.{WrongIncoming, UnknownPlace, WrongOutgoing}
pub mod One

-- the documents' number of each refusal
abbrev pub refusal_of : AlignError → ℕ
refusal_of WrongIncoming = 1
refusal_of UnknownPlace = 23
refusal_of WrongOutgoing = 2

-- and of each answer
abbrev pub say_of : Result ⊤ AlignError → Say
say_of = said_by (λ w. []) refusal_of
