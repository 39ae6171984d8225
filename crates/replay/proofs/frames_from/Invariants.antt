-- `replay::frames_from` meets its contract: the loop's invariant is that the bits before edge j are counted (`Counting`).
-- Assumes nothing.
use Rattle.replay.proofs.Counting.{Counting}
use Rattle.replay.proofs.frames_from.Given as goal

abbrev pub invariant-loop-j : goal.invariant-loop-j
invariant-loop-j l = Counting l.capture l.k l.bits l.j
