-- `empty_lines::find` meets its contract: each way out is a law of `WaysOut`.
-- Assumes nothing.
use Rattle.empty_lines.proofs.WaysOut.{on_refusal, on_empty, on_other}
use Rattle.empty_lines.proofs.find.Goals as goal

pub returns-in_default : goal.returns-in_default
returns-in_default c = on_refusal _ c.judge.result c.judge.ensures c.in_default.not-Ok

pub returns-then-passed-eq-EMPTY_MODE : goal.returns-then-passed-eq-EMPTY_MODE
returns-then-passed-eq-EMPTY_MODE c =
    on_empty _ c.judge.result _ c.judge.ensures c.in-Ok.is (λ i. (c.shared_slice_known-1.given i).fits) c.if-passed-eq-EMPTY_MODE.true

pub returns : goal.returns
returns c = on_other _ c.judge.result _ c.judge.ensures c.in-Ok.is c.if-passed-eq-EMPTY_MODE.false
