-- The answers of restoring a capture as numbers and values (document 02, §5: 1, 2, 19).
-- Assumes nothing.
use Rattle.std.specs.Prelude.{[], ◌∷◌, ℕ, Result}
use Rattle.outcome.specs.Say.{Say, said_by}
use Rattle.restoring.specs.declared.RestoreError.{RestoreError}
use Rattle.restoring.specs.declared.RestoreError.TheVariants.{WrongIncoming, WrongOutgoing, WrongNumber}
pub mod One

abbrev pub refusal_of : RestoreError → ℕ
refusal_of WrongIncoming = 1
refusal_of WrongOutgoing = 2
refusal_of WrongNumber = 19

-- with the capture comes its used length
abbrev pub say_of : Result ℕ RestoreError → Say
say_of = said_by (λ used. used ∷ []) refusal_of
