-- `control_spread::spread` meets its contract: the loop fills the array with the Control bytes, bit by bit (`spread_at`).
-- Assumes nothing.
use Rattle.outcome.specs.Buffer.{Filling}
use Rattle.bits.specs.Bits.{unpack}
use Rattle.control.specs.Channels.{p_bit, framed}
use Rattle.control_spread.proofs.spread.Given as goal

abbrev pub invariant-loop-k : goal.invariant-loop-k
invariant-loop-k l = Filling l.initial.byte-items (framed (p_bit l.flag) (unpack l.bytes)) l.k l.byte-items
