-- `control_told::tell_read` meets its contract: each arm is a case of `say_of`, told.
-- Assumes nothing.
use mathlib.Core.Path.{◌∙◌, ap}
use Rattle.control_told.proofs.tell_read.Goals as goal

pub returns-in-Ok : goal.returns-in-Ok
returns-in-Ok c = rw c.in-Ok.is (record { has_number = c.tell.ensures.0; has_values = c.tell.ensures.1 ∙ c.values_of.ensures })
