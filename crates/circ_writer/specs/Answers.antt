-- What the writer's answers say, in document 01's numbers and values.
-- Assumes nothing.
use Rattle.std.specs.Prelude.{⊤, [], Result}
use Rattle.outcome.specs.Say.{Say, said_by}
use Rattle.circ.specs.declared.CircError.{CircError}
use Rattle.circ.specs.Refusals.{refusal_of}
pub mod One

-- the frame is all that comes back
abbrev pub say_of : Result ⊤ CircError → Say
say_of = said_by (λ w. []) refusal_of
