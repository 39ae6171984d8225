-- `search::search_from` meets its contract: the invariant is that nothing offends before bit p, and v is the window there (`Passing`).
-- Assumes nothing.
use Rattle.stream_windows.specs.Window.Found.{Passing}
use Rattle.stream_judge.proofs.search.search_from.Given as goal

abbrev pub invariant-loop-p : goal.invariant-loop-p
invariant-loop-p l = Passing l.channel l.n l.p l.v
