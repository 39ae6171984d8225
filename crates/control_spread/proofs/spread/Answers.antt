-- `control_spread::spread` meets its contract: the loop fills the array with the Control bytes, bit by bit (`spread_at`).
-- Assumes nothing.
use mathlib.Core.Path.{◌≡◌, ap₂, ◌∙◌}
use Prim.Native.Nat.{ℕ, ◌*◌, ◌+◌, ◌<◌}
use native.Mathlib.Omega.{arith}
use borrow.Author.Rules.{rules}
use lib.ListN.{length, length-replicate}
use Rattle.outcome.specs.Buffer.Filled.{filling-none, filling_more, filling_all}
use Rattle.bits.specs.Bits.{unpack}
use Rattle.bits.proofs.Bits.Packed.{length-unpack}
use Rattle.control.specs.Channels.{p_bit, framed}
use Rattle.control.specs.Channels.Framed.{length-framed, p_bit_is, p_lt}
use Rattle.control_spread.proofs.QBits.{spread_at}
use Rattle.control_spread.proofs.spread.Goals as goal

pub loop-k-init : goal.loop-k-init
loop-k-init c =
    let args = c.args in
    filling-none _ (framed (p_bit args.flag) (unpack args.bytes))
    (omega (arith, (let twelve : length c.args.bytes ≡ 12 = search rules in twelve), length-framed (p_bit args.flag) (unpack args.bytes), length-unpack args.bytes, length-replicate {A = ℕ} 96 0))

pub overflow_mul-byte : goal.overflow_mul-byte
overflow_mul-byte c = omega (arith, p_bit_is c.args.flag c.from-p.ensures, p_lt c.args.flag)

pub overflow_add-byte : goal.overflow_add-byte
overflow_add-byte c = omega (arith, c.bit.ensures, p_bit_is c.args.flag c.from-p.ensures, p_lt c.args.flag)

pub loop-k-preserved : goal.loop-k-preserved
loop-k-preserved c =
    let args = c.args in
    let f = c.loop-k.invariant in
    let k = c.loop-k.k in
    let room : k < 8 * length args.bytes = omega (arith, (let twelve : length c.args.bytes ≡ 12 = search rules in twelve)) in
    filling_more f _ (omega (arith, length-framed (p_bit args.flag) (unpack args.bytes), length-unpack args.bytes))
    (ap₂ (λ (p q : ℕ). p * 128 + q * 64) (p_bit_is c.args.flag c.from-p.ensures) c.bit.ensures ∙ spread_at args.bytes k room (p_bit args.flag))

pub returns : goal.returns
returns c =
    let args = c.args in
    filling_all c.loop-k.invariant
    (omega (arith, (let twelve : length c.args.bytes ≡ 12 = search rules in twelve), length-framed (p_bit args.flag) (unpack args.bytes), length-unpack args.bytes))
