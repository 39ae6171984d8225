-- The answers of keeping a capture as numbers and values (document 02, §5: 1, 2).
-- Assumes nothing.
use Rattle.std.specs.Prelude.{[], ◌∷◌, ℕ, Result}
use Rattle.outcome.specs.Say.{Say, said_by}
use Rattle.keeping.specs.declared.ListError.{ListError}
use Rattle.keeping.specs.declared.ListError.TheVariants.{WrongIncoming, WrongOutgoing}
pub mod One

abbrev pub refusal_of : ListError → ℕ
refusal_of WrongIncoming = 1
refusal_of WrongOutgoing = 2

-- with the list comes its used length
abbrev pub say_of : Result ℕ ListError → Say
say_of = said_by (λ used. used ∷ []) refusal_of
