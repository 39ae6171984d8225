-- What the reader's answers say, in document 01's numbers and values.
-- Assumes nothing.
use Rattle.std.specs.Prelude.{ℕ, [], ◌∷◌, Result}
use Rattle.outcome.specs.Say.{Say, said_by}
use Rattle.circ.specs.declared.CircError.{CircError}
use Rattle.circ.specs.Refusals.{refusal_of}
use Rattle.circ_reader.specs.declared.Surety.{Surety}
use Rattle.circ_reader.specs.declared.Surety.TheVariants.{Sure, InDoubt}
pub mod One

-- the doubt mark of a frame
abbrev pub mark_of : Surety → ℕ
mark_of Sure = 0
mark_of InDoubt = 1

-- with the frame comes its doubt mark
abbrev pub say_of : Result Surety CircError → Say
say_of = said_by (λ s. mark_of s ∷ []) refusal_of
