-- `handed_out` meets its contract: after `i` turns the first `i` bytes are those of the sequence, and the register is 8 i steps on.
-- Assumes nothing.
use Prim.Native.Nat.{ℕ, ◌+◌, ◌*◌}
use mathlib.Core.Path.{◌≡◌, sym, ap, ◌∙◌}
use native.Mathlib.Omega.{arith}
use lib.ListN.{replicate}
use Rattle.outcome.specs.Buffer.{grown}
use Rattle.outcome.specs.Buffer.Filled.{filling-none, filling_more}
use Rattle.sequence.specs.Sequence.{register, byte_of, sequence}
use Rattle.sequence.specs.Sequence.Follows.{length-sequence, sequence-at}
use Rattle.sequence.proofs.handed_out.Goals as goal

pub loop-i-init : goal.loop-i-init
loop-i-init c = (filling-none _ sequence (sym length-sequence), c.preset-register.ensures)

pub loop-i-preserved : goal.loop-i-preserved
loop-i-preserved c =
    let turn = c.loop-i in
    let i = turn.i in
    let shifts = c.shift.ensures (8 * i) turn.invariant.1 in
    let e : 8 * i + 8 ≡ 8 * (i + 1) = omega arith in (
      filling_more turn.invariant.0 _ (omega (arith, length-sequence)) (shifts.0 ∙ sym (sequence-at i (omega arith))),
      shifts.1 ∙ ap (λ (k : ℕ). byte_of (register k)) e,
    )

pub returns : goal.returns
returns c =
    let e : c.loop-i.i ≡ 15 = omega (arith, c.loop-i.auto.i-end, c.loop-i-test.false) in
    c.loop-i.invariant.0.is ∙ ap (grown (replicate 2340 0) sequence) e
