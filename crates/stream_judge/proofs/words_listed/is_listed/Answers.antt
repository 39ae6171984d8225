-- `words_listed::is_listed` meets its contract: the guide finds the byte of the word (`listed_is`).
-- Assumes nothing.
use mathlib.Core.Path.{◌∙◌}
use Rattle.stream_judge.proofs.Tests.{listed_is}
use Rattle.stream_judge.proofs.words_listed.is_listed.Goals as goal

pub returns : goal.returns
returns c = c.is_some.ensures ∙ listed_is c.args.guide.now c.args.table.now c.args.w c.requires.1 c.requires.0 _ c.look_up.ensures
