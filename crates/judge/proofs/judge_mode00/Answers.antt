-- `judge::judge_mode00` meets its contract: each way out has the test that `judging_mode00` asks.
-- Assumes nothing.
use mathlib.Core.Path.{sym, ap, ◌∙◌}
use Rattle.judge.specs.Judging.{passing, judging_mode00}
use Rattle.judge.proofs.judge_mode00.Goals as goal

pub returns-then-not-filler_right : goal.returns-then-not-filler_right
unfolding judging_mode00
returns-then-not-filler_right c = simp (sym c.filler_right.ensures ∙ c.if-not-filler_right.true)

pub returns : goal.returns
unfolding judging_mode00
returns c = simp (sym c.filler_right.ensures ∙ c.if-not-filler_right.false) (ap (passing 0) c.requires)
