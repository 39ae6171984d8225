-- `run` meets its contract: after each turn the run is what is left so far and behind it the rest (`Running`).
-- Assumes nothing.
use Prim.Native.Nat.{◌+◌, ◌*◌, ◌-◌, ◌≤◌, ◌<◌}
use mathlib.Core.Path.{◌≡◌, ◌∙◌}
use native.Mathlib.Omega.{arith}
use borrow.Author.Rules.{rules}
use lib.ListN.{length}
use Rattle.circ_runs.proofs.Running.{running_at, running_more, running_all}
use Rattle.circ_runs.proofs.run.Goals as goal

pub loop-call-preserved : goal.loop-call-preserved
loop-call-preserved g c =
    let k = 2 * c.loop-call.call in
    let l = c.code-answer.ensures in
    let on : k + 2 ≡ 2 * (c.loop-call.call + 1) = omega arith in
    let more : 2 ≤ length c.loop-call.steps - k = omega (arith, c.loop-call-test.true, c.loop-call.invariant.as_many) in
    running_at g.C.Coder.does on
    (running_more g.C.Coder.does c.loop-call.invariant c.end_of-from_end.result c.end_of-to_end.result _ _ _
    more c.end_of-from_end.ensures c.end_of-to_end.ensures
    (record { has_next_lem = l.has_next_lem; has_answer = c.copy_from_slice.ensures.after ∙ l.has_answer; has_out = l.has_out })
    (search rules))

pub returns : goal.returns
returns g c =
    let rest : length c.loop-call.steps - 2 * c.loop-call.call < 2 = omega (arith, c.loop-call-test.false, c.loop-call.invariant.as_many) in
    running_all g.C.Coder.does c.loop-call.invariant rest
