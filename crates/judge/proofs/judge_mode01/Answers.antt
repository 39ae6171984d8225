-- `judge::judge_mode01` meets its contract: each way out is a law of `WaysOut`.
-- Assumes nothing.
use Rattle.judge.proofs.WaysOut.{covered_long, ways01}
use Rattle.judge.proofs.judge_mode01.Goals as goal

pub slice_bounds-holds-end : goal.slice_bounds-holds-end
slice_bounds-holds-end c = search covered_long

pub returns-then-not-holds : goal.returns-then-not-holds
returns-then-not-holds c = search ways01

pub returns-then-not-intermediate_right : goal.returns-then-not-intermediate_right
returns-then-not-intermediate_right c = search ways01

pub returns-in-Some : goal.returns-in-Some
returns-in-Some c = search ways01

pub returns-in-Some-first_failing : goal.returns-in-Some-first_failing
returns-in-Some-first_failing c = search ways01

pub returns : goal.returns
returns c = search ways01
