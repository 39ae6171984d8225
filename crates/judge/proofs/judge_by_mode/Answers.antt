-- `judge::judge_by_mode` meets its contract: each mode is a law of `WaysOut`.
-- Assumes nothing.
use Rattle.judge.proofs.WaysOut.{in_mode00, in_mode01, in_mode02}
use Rattle.judge.proofs.judge_by_mode.Goals as goal

pub returns-in-0 : goal.returns-in-0
returns-in-0 c = search in_mode00

pub returns-in-1 : goal.returns-in-1
returns-in-1 c = search in_mode01

pub returns-in_default : goal.returns-in_default
returns-in_default c = search in_mode02
