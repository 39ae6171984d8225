-- `header_search::header_edge` meets its contract: the loop's invariant is that no Sync Header begins at the edges from `from` to before k (`Searched`).
-- Assumes nothing.
use native.Mathlib.Omega.{arith}
use Rattle.header_search.proofs.Searching.{searched_none, on_begins, searched_more, on_end}
use Rattle.header_search.proofs.header_edge.Goals as goal

pub loop-k-init : goal.loop-k-init
loop-k-init c = searched_none _ _

pub returns-then-begins_at : goal.returns-then-begins_at
returns-then-begins_at c =
    on_begins c.loop-k.invariant (omega (arith, c.loop-k-test.true, c.saturating_sub-end.ensures)) _ c.begins_at.ensures c.if-begins_at.true

pub loop-k-preserved : goal.loop-k-preserved
loop-k-preserved c =
    searched_more c.loop-k.invariant (omega (arith, c.loop-k-test.true, c.saturating_sub-end.ensures)) _ c.begins_at.ensures c.if-begins_at.false

pub returns : goal.returns
returns c = on_end c.loop-k.invariant _ _ c.saturating_sub-end.ensures c.loop-k-test.false c.max.ensures
