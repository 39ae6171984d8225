-- `crc::bring_byte` meets its contract: the steps for the j bits that are left end where those for all eight do.
-- Assumes nothing.
use mathlib.Core.Path.{◌≡◌}
use Rattle.bits.specs.Bits.{bits_of}
use Rattle.crc.specs.Inner.Register.{steps}
use Rattle.crc.proofs.bring_byte.Given as goal

abbrev pub invariant-loop-j : goal.invariant-loop-j
invariant-loop-j l = steps l.r (bits_of l.j l.b) ≡ steps l.r-2 (bits_of 8 l.b)
