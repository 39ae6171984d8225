-- `judged_bits::bit_at` meets its contract: a bit lies before the stream, in its byte, in the Sync Header behind, or behind both (`bit-before`,
-- `bit_in`, `bit-behind`, `bit_past`).
-- Assumes nothing.
use mathlib.Core.Path.{ap, ◌∙◌}
use Prim.Native.Nat.{ℕ, ◌-◌, ◌/◌, ◌%◌, ◌^◌}
use native.Mathlib.Omega.{arith}
use Rattle.judged_bits.specs.Bytes.{bit-before, bit_in, bit-behind, bit_past}
use Rattle.judged_bits.proofs.bit_at.Goals as goal

pub returns-then-q-lt16 : goal.returns-then-q-lt16
returns-then-q-lt16 c = (bit-before c.args.channel.now c.args.q c.if-q-lt16.true, omega arith)

pub returns-then-i-channel : goal.returns-then-i-channel
returns-then-i-channel c =
    let q = c.args.q in
    (ap (λ (x : ℕ). x / 2 ^ (7 - (q - 16) % 8) % 2) c.from.ensures ∙ bit_in c.args.channel.now q c.if-q-lt16.false c.if-i-channel.true, omega arith)

pub returns-then-behind-ge3 : goal.returns-then-behind-ge3
returns-then-behind-ge3 c =
    (bit_past c.args.channel.now c.args.q c.if-i-channel.false c.if-behind-ge3.true, omega arith)

pub returns : goal.returns
returns c =
    (bit-behind c.args.channel.now c.args.q c.if-i-channel.false c.if-behind-ge3.false c.if-q-lt16.false, omega arith)
