-- The answers of salvage as numbers and values (document 02, §10).
-- Assumes nothing.
use Rattle.std.specs.Prelude.{[], ◌∷◌, ℕ, Result}
use Rattle.outcome.specs.Say.{Say, said_by}
use Rattle.salvage.specs.declared.Salvaged.{Salvaged}
use Rattle.salvage.specs.declared.SalvageError.{SalvageError}
use Rattle.salvage.specs.declared.SalvageError.TheVariants.{WrongIncoming, WrongOutgoing, WrongPasses, NoneCorrect}
pub mod Told

-- document 01's number of each refusal
abbrev pub refusal_of : SalvageError → ℕ
refusal_of WrongIncoming = 1
refusal_of WrongOutgoing = 2
refusal_of WrongPasses = 22
refusal_of NoneCorrect = 5

-- the number and values of each answer
abbrev pub say_of : Result Salvaged SalvageError → Say
say_of = said_by (λ s. s.passes ∷ s.changes ∷ []) refusal_of
