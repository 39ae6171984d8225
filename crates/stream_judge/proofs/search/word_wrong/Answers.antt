-- `search::word_wrong` meets its contract: the test of the word, of which is known whether it is listed (`wrong-listed`).
-- Assumes nothing.
use mathlib.Core.Path.{◌∙◌}
use Rattle.offence_tests.specs.Known.Listed.{wrong-listed}
use Rattle.stream_judge.proofs.search.word_wrong.Goals as goal

pub returns : goal.returns
returns c = c.is_word_wrong.ensures ∙ wrong-listed _ _ _ c.is_listed-known.ensures
