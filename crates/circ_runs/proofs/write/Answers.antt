-- `write` meets its contract: a run from a fresh writer leaves the same in both arrangements (`writing_alike`).
-- Assumes nothing.
use mathlib.Core.Path.{ap, ◌∙◌}
use Rattle.circ.specs.Rings.{Rings}
use Rattle.circ.proofs.Rings.Known.{writer_rest}
use Rattle.circ_runs.specs.Runs.{runs}
use Rattle.circ_runs.specs.Coders.{writing_in_place}
use Rattle.circ_runs.specs.Coders.Alike.{writing_alike}
use Rattle.circ_runs.proofs.write.Goals as goal

pub returns : goal.returns
returns c =
    let a = c.args in
    c.run.ensures
    ∙ ap (λ (s : Rings). runs writing_in_place s a.steps.now a.frames.now a.out.now) (writer_rest _ _ c.new.ensures.1 c.new.ensures.0)
    ∙ writing_alike a.steps.now a.frames.now a.out.now
