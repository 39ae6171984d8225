-- `search::offence_in` meets its contract: the lowest number that the three tests show (`shows`).
-- Assumes nothing.
use mathlib.Core.Path.{◌∙◌}
use Rattle.stream_judge.proofs.Tests.{shows}
use Rattle.stream_judge.proofs.search.offence_in.Goals as goal

pub returns : goal.returns
returns c =
    c.lowest.ensures ∙ shows _ _ _ _ _ c.run_in-run.ensures c.head_wrong-head.ensures c.word_wrong-word.ensures
