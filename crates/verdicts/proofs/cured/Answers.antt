-- `verdicts::cured` meets its contract: each arm is a case of `cure`, and the place of a fault lies inside the word by what is
-- required.
-- Assumes nothing.
use mathlib.Core.Path.{sym, ap}
use Rattle.codeword.specs.Fault.{cure}
use Rattle.verdicts.proofs.cured.Goals as goal

pub bounds-w-i : goal.bounds-w-i
bounds-w-i c = c.requires _ _ c.in-At.is

pub returns-in-At : goal.returns-in-At
returns-in-At c = sym (ap (cure c.args.w.now) c.in-At.is)
