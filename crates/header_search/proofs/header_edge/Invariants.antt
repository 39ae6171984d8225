-- `header_search::header_edge` meets its contract: the loop's invariant is that no Sync Header begins at the edges from `from` to before k (`Searched`).
-- Assumes nothing.
use Rattle.header_search.proofs.Searching.{Searched}
use Rattle.header_search.proofs.header_edge.Given as goal

abbrev pub invariant-loop-k : goal.invariant-loop-k
invariant-loop-k l = Searched l.capture l.from l.k
