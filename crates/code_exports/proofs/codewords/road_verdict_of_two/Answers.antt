-- `road_verdict_of_two` meets its contract: it is the promise of `verdict_of_two`, and `tell_verdict` tells the verdict.
-- Assumes nothing.
use mathlib.Core.Path.{ap, ◌∙◌}
use Rattle.code_exports.specs.Verdicts.{told_of}
use Rattle.code_exports.proofs.codewords.road_verdict_of_two.Goals as goal

pub returns : goal.returns
returns c = c.tell_verdict.ensures ∙ ap told_of c.verdict_of_two.ensures
