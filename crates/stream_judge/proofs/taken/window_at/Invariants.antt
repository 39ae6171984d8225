-- `taken::window_at` meets its contract: the invariant is that v has the first k bits of the window (`Growing`).
-- Assumes nothing.
use Rattle.stream_judge.proofs.Passes.{Growing}
use Rattle.stream_judge.proofs.taken.window_at.Given as goal

abbrev pub invariant-loop-k : goal.invariant-loop-k
invariant-loop-k l = Growing l.channel l.p l.k l.v
