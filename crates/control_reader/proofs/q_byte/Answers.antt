-- `control_reader::q_byte` meets its contract: after j turns the number is that of j bits (`Gathering`).
-- Assumes nothing.
use mathlib.Core.Path.{◌≡◌, ap, ◌∙◌}
use Prim.Native.Nat.{ℕ}
use native.Mathlib.Omega.{arith}
use lib.ListN.{take, drop}
use Rattle.bits.specs.Bits.{number}
use Rattle.control_reader.specs.Reading.{q_of}
use Rattle.control_reader.proofs.Gathering.{gathered_none, gathered_lt, gathered_more}
use Rattle.control_reader.proofs.q_byte.Goals as goal

pub loop-j-init : goal.loop-j-init
loop-j-init c = gathered_none _ _

pub overflow_mul-n : goal.overflow_mul-n
overflow_mul-n c = omega (arith, gathered_lt c.loop-j.invariant c.loop-j-test.true)

pub overflow_add-n : goal.overflow_add-n
overflow_add-n c = omega (arith, gathered_lt c.loop-j.invariant c.loop-j-test.true, c.q_bit.ensures)

pub loop-j-preserved : goal.loop-j-preserved
loop-j-preserved c =
    gathered_more c.loop-j.invariant c.loop-j-test.true _ c.requires c.q_bit.ensures

pub returns : goal.returns
returns c =
    let g = c.loop-j.invariant in
    let eight : c.loop-j.j ≡ 8 = omega (arith, g.upto) in
    let args = c.args in
    g.is ∙ ap (λ (j : ℕ). number 0 (take j (drop args.at (q_of args.bytes.now)))) eight
