-- `carrying::carry` meets its contract: each way out is a constructor of `Carries`, by the laws of `WaysOut`.
-- Assumes nothing.
use mathlib.Core.Path.{sym, ◌∙◌}
use native.Mathlib.Omega.{arith}
use Rattle.carrying.specs.Carry.{wrong_incoming, wrong-outgoing, carries}
use Rattle.carrying.proofs.WaysOut.{on_refusal, addresses}
use Rattle.carrying.proofs.carry.Goals as goal

pub returns-in_default : goal.returns-in_default
returns-in_default c = wrong_incoming c.in_default.ensures

pub overflow_mul-n : goal.overflow_mul-n
overflow_mul-n c = let d = c.in-Some.ensures in omega (arith, d.sixteen)

pub returns-then-out-n : goal.returns-then-out-n
returns-then-out-n c = wrong-outgoing c.in-Some.ensures c.if-out-n.true

pub returns-in_err-demands : goal.returns-in_err-demands
returns-in_err-demands c =
    on_refusal _ _ _ c.in-Some.ensures _ _ c.if-out-n.false (c.fill.ensures.after (λ y e. e)) c.from_residual.result _ c.from_residual.ensures.1
    c.in_err-demands.ensures

pub write_each-requires : goal.write_each-requires
write_each-requires c =
    let there = addresses _ _ _ c.in-Some.ensures c.in_ok-demands.ensures in
    (c.in-Some.ensures, c.fill.ensures.len ∙ c.if-out-n.false, there.0, there.1)

pub returns : goal.returns
returns c = carries c.in-Some.ensures c.if-out-n.false (sym c.in_ok-demands.ensures) c.write_each.ensures
