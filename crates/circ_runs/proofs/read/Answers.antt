-- `read` meets its contract: a run from a fresh reader leaves the same in both arrangements (`reading_alike`).
-- Assumes nothing.
use mathlib.Core.Path.{ap, ◌∙◌}
use Rattle.circ.specs.Rings.{Rings}
use Rattle.circ.proofs.Rings.Known.{reader_rest}
use Rattle.circ_runs.specs.Runs.{runs}
use Rattle.circ_runs.specs.Coders.{reading_in_place}
use Rattle.circ_runs.specs.Coders.Alike.{reading_alike}
use Rattle.circ_runs.proofs.read.Goals as goal

pub returns : goal.returns
returns c =
    let a = c.args in
    c.run.ensures
    ∙ ap (λ (s : Rings). runs reading_in_place s a.steps.now a.frames.now a.out.now) (reader_rest _ _ c.new.ensures.1 c.new.ensures.0)
    ∙ reading_alike a.steps.now a.frames.now a.out.now
