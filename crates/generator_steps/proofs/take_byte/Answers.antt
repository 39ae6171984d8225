-- `generator_steps::take_byte` meets its contract by what `entry` gives.
-- Assumes nothing.
use mathlib.Core.Path.{ap}
use Prim.Native.Nat.{◌+◌, ◌*◌, ◌/◌}
use lib.Bits.{bit_xor}
use Rattle.generator_steps.proofs.take_byte.Goals as goal

pub returns : goal.returns
returns c = ap (bit_xor (c.args.r / 256 + c.args.b * 16777216)) c.entry.ensures
