-- Why a step of the writer or of the reader is refused, in document 01's numbers.
-- Assumes nothing.
use Rattle.std.specs.Prelude.{ℕ}
use Rattle.circ.specs.declared.CircError.{CircError}
use Rattle.circ.specs.declared.CircError.TheVariants.{WrongIncoming, WrongOutgoing, WrongPlace}
pub mod One

abbrev pub refusal_of : CircError → ℕ
refusal_of WrongIncoming = 1
refusal_of WrongOutgoing = 2
refusal_of WrongPlace = 6
