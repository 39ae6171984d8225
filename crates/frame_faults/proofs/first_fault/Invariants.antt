-- `frame_faults::first_fault` meets its contract: the frames passed have no fault, so that the others decide (`Looking`).
-- Assumes nothing.
use Prim.Native.Nat.{◌/◌}
use lib.ListN.{length}
use Rattle.frame_faults.proofs.Looking.{Looking}
use Rattle.frame_faults.proofs.first_fault.Given as goal

abbrev pub invariant-loop-i : goal.invariant-loop-i
invariant-loop-i l = Looking (length l.frames / 2064) l.frames l.i
