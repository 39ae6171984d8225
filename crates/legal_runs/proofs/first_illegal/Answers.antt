-- `legal_runs::first_illegal` meets its contract: the loop's invariant is that the first i runs are legal (`Passed`).
-- Assumes nothing.
use native.Mathlib.Omega.{arith}
use Rattle.legal_runs.proofs.Legality.{on_illegal, passed_more, passed_all}
use Rattle.legal_runs.proofs.first_illegal.Goals as goal

pub returns-then-bits-lt3 : goal.returns-then-bits-lt3
returns-then-bits-lt3 c = on_illegal c.loop-i.invariant (omega (arith, c.loop-i-test.true, c.saturating_sub-runs.ensures)) _ c.bits_at-bits.ensures c.then-bits-lt3.either

pub loop-i-preserved : goal.loop-i-preserved
loop-i-preserved c =
    passed_more c.loop-i.invariant (omega (arith, c.loop-i-test.true, c.saturating_sub-runs.ensures)) _ c.bits_at-bits.ensures c.if-bits-lt3.false c.if-bits-gt11.false

pub returns : goal.returns
returns c = search passed_all
