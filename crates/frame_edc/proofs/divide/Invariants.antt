-- `frame_edc::divide` meets its contract: the register holds the remainder of the bytes passed (`Passed`).
-- Assumes nothing.
use Rattle.frame_edc.proofs.Passed.{Passed}
use Rattle.frame_edc.proofs.divide.Given as goal

abbrev pub invariant-loop-b : goal.invariant-loop-b
invariant-loop-b l = Passed l.bytes l.b-index l.r
