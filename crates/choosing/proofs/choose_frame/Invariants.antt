-- `choosing::choose_frame` meets its contract. The invariant: the words before place i are chosen, and the trace is the one after them (`Chosen`).
-- Assumes nothing.
use Rattle.choosing.proofs.FrameLoop.{Chosen}
use Rattle.choosing.proofs.choose_frame.Given as goal

abbrev pub invariant-loop-i : goal.invariant-loop-i
invariant-loop-i l = Chosen l.initial.t l.fn.symbols l.initial.words l.words l.t l.i
