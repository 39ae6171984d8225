-- `choosing::word::best` meets its contract: the better of two choices stands for the better of their Merging bits (`word_chosen`).
-- Assumes nothing.
use mathlib.Core.Path.{ap, ◌∙◌}
use Rattle.traces.specs.declared.Choice.{Choice}
use Rattle.traces.specs.Better.{better_of}
use Rattle.choosing.proofs.WordCandidates.{word_chosen}
use Rattle.choosing.proofs.word.best.Goals as goal

pub returns : goal.returns
returns c =
    c.better_of-3.ensures
    ∙ ap (λ (x : Choice). better_of x c.without_one-d.result)
    (c.better_of-2.ensures ∙ ap (λ (x : Choice). better_of x c.with_one-c.result) c.better_of.ensures)
    ∙ word_chosen _ _ _ _ _ _ c.with_one-a.ensures c.with_one-b.ensures c.with_one-c.ensures c.without_one-d.ensures
