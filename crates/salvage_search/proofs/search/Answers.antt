-- `salvage_search::search` meets its contract. The loop's invariant: what the passes before k have left, and that none of them yielded a correct
-- trial (`Searching`).
-- Assumes nothing.
use native.Mathlib.Omega.{arith}
use Rattle.salvage_search.proofs.Searching.{searched, searching_none, searching_more, searching_found, searching_all}
use Rattle.salvage_search.proofs.search.Goals as goal

pub loop-k-init : goal.loop-k-init
loop-k-init c = (searching_none _ _ c.if-s-ne2352.false c.if-t-ne2352.false, omega arith)

pub returns-then-tries : goal.returns-then-tries
returns-then-tries c =
    searched c.if-s-ne2352.false c.if-t-ne2352.false
    (searching_found c.loop-k.invariant.0 _ _ _ _ c.pass.ensures c.copy_from_slice.ensures.after c.tries.ensures
    c.if-tries.true c.args.passes (omega arith))

pub loop-k-preserved : goal.loop-k-preserved
loop-k-preserved c = (
  searching_more c.loop-k.invariant.0 _ _ _ _ c.pass.ensures c.copy_from_slice.ensures.after c.tries.ensures
      c.if-tries.false,
  omega arith,
)

pub returns-else-t-ne2352 : goal.returns-else-t-ne2352
returns-else-t-ne2352 c = searched c.if-s-ne2352.false c.if-t-ne2352.false (searching_all _ c.loop-k.invariant.0 (omega arith))

pub returns-else-tries : goal.returns-else-tries
returns-else-tries c =
    searched c.if-s-ne2352.false c.if-t-ne2352.false
    (searching_all _
    (searching_more c.loop-k.invariant.0 _ _ _ _ c.pass.ensures c.copy_from_slice.ensures.after c.tries.ensures
    c.if-tries.false)
    (omega arith))
