-- Writing the Control bytes of a Section (document 02, §3): 2, then 18 where clause 22 does not allow the fields.
-- Assumes nothing.
use Rattle.std.specs.Prelude.{List, [], ℕ, Result, ⊤, eqb, length}
use Rattle.outcome.specs.Say.{Say, done, said_by, demand, Outcome, answered}
use Rattle.control.specs.declared.Control.{Control}
use Rattle.control.specs.Fields.{allowed}
use Rattle.control.specs.Channels.{control_bytes}
use Rattle.control_writer.specs.declared.WriteControlError.{WriteControlError}
use Rattle.control_writer.specs.declared.WriteControlError.TheVariants.{WrongOutgoing, NotAllowed}
pub mod One

-- document 02's number for each refusal
abbrev pub refusal_of : WriteControlError → ℕ
refusal_of WrongOutgoing = 2
refusal_of NotAllowed = 18

-- what each answer says
abbrev pub say_of : Result ⊤ WriteControlError → Say
say_of = said_by (λ w. []) refusal_of

-- all that writing does: the answer, and the 96 bytes
unfoldable pub writing : Control → List ℕ → Outcome
writing f old = answered (demand (eqb (length old) 96) 2 (demand (allowed f) 18 (done []))) 96 (control_bytes f) old
