-- `carrying::write_each` meets its contract. The invariant: i Sectors are written, and `time` is the next address (`Writing`); a turn is
-- `writing_more`.
-- Assumes nothing.
use mathlib.Core.Path.{sym, ◌∙◌}
use native.Mathlib.Omega.{arith}
use borrow.Author.Rules.{rules}
use Rattle.carrying.proofs.Writing.{writing-none, writing_more, writing_all}
use Rattle.carrying.proofs.write_each.Goals as goal

pub loop-i-init : goal.loop-i-init
loop-i-init c = writing-none _ _ _ _ c.requires.1

pub overflow_mul-from : goal.overflow_mul-from
overflow_mul-from c = omega (arith, c.requires.0.sixteen)

pub overflow_add-from : goal.overflow_add-from
overflow_add-from c = omega (arith, c.requires.0.sixteen)

pub overflow_mul-to : goal.overflow_mul-to
overflow_mul-to c = omega (arith, c.requires.0.sixteen)

pub overflow_add-from-in-loop-i : goal.overflow_add-from-in-loop-i
overflow_add-from-in-loop-i c = omega (arith, c.requires.0.sixteen)

pub slice_bounds-write-count : goal.slice_bounds-write-count
slice_bounds-write-count c = omega (arith, c.requires.0.sixteen)

pub overflow_add-to : goal.overflow_add-to
overflow_add-to c = omega (arith, c.requires.0.sixteen)

pub slice_bounds-write-count-in-loop-i : goal.slice_bounds-write-count-in-loop-i
slice_bounds-write-count-in-loop-i c = omega (arith, c.requires.0.sixteen)

pub loop-i-preserved : goal.loop-i-preserved
loop-i-preserved c =
    let pre = c.requires in
    writing_more pre.0 pre.2 pre.3 c.loop-i.invariant c.loop-i-test.true _ c.write.ensures (search rules)
    c.following-time.result c.following-time.ensures

pub shape_of-out : goal.shape_of-out
shape_of-out c = c.loop-i.invariant.as_long ∙ sym c.requires.1

pub returns : goal.returns
returns c = let pre = c.requires in writing_all pre.0 pre.2 pre.3 c.loop-i.invariant c.loop-i-test.false
