-- `handed_out` meets its contract: after `i` turns the first `i` bytes are those of the sequence, and the register is 8 i steps on.
-- Assumes nothing.
use Prim.Native.Nat.{◌*◌}
use mathlib.Core.Path.{◌≡◌}
use Rattle.outcome.specs.Buffer.{Filling}
use Rattle.sequence.specs.Sequence.{register, byte_of, sequence}
use Rattle.sequence.proofs.handed_out.Given as goal

abbrev pub invariant-loop-i : goal.invariant-loop-i
invariant-loop-i l = Filling l.initial.bytes sequence l.i l.bytes × (l.register.bits ≡ byte_of (register (8 * l.i)))
