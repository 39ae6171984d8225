-- `replay::put_frames` meets its contract: the loop's invariant is that the Channel bits before bit q are in the buffer as far as `end` (`Drawing`).
-- Assumes nothing.
use mathlib.Core.Path.{sym, ap, ◌∙◌}
use Prim.Native.Nat.{ℕ}
use native.Mathlib.Omega.{arith}
use lib.ListN.{length, length-replicate}
use Rattle.replay.proofs.Drawing.{drawing_none, few_edges, drawing_room, b_some, drawing_more, drawing_all}
use Rattle.replay.proofs.put_frames.Goals as goal

pub loop-q-init : goal.loop-q-init
loop-q-init c = search drawing_none

pub put_one-requires : goal.put_one-requires
put_one-requires c =
    let p = c.requires in
    drawing_room p.there.legal p.within p.room c.loop-q.invariant c.loop-q-test.true

pub overflow_add-q : goal.overflow_add-q
overflow_add-q c =
    let p = c.requires in
    omega (arith, c.loop-q.invariant.near, p.room, b_some p.there.legal p.within p.room c.loop-q.invariant c.loop-q-test.true _ c.bits_at-q.ensures)

pub overflow_add-j : goal.overflow_add-j
overflow_add-j c =
    let p = c.requires in
    omega (arith, c.loop-q.invariant.near, c.loop-q.invariant.few, p.room, few_edges p.there)

pub loop-q-smaller : goal.loop-q-smaller
loop-q-smaller c =
    let p = c.requires in
    omega (arith, c.loop-q-test.true, b_some p.there.legal p.within p.room c.loop-q.invariant c.loop-q-test.true _ c.bits_at-q.ensures)

pub loop-q-preserved : goal.loop-q-preserved
loop-q-preserved c =
    let p = c.requires in
    drawing_more p.there.legal p.within p.room c.loop-q.invariant c.loop-q-test.true _ c.bits_at-q.ensures _
    c.put_one.ensures

pub shape_of-out : goal.shape_of-out
shape_of-out c =
    let p = c.requires in
    c.loop-q.invariant.long ∙ sym (ap length p.zeros ∙ length-replicate {A = ℕ} 65536 0)

pub returns : goal.returns
returns c =
    let p = c.requires in
    drawing_all p.within p.room c.loop-q.invariant c.loop-q-test.false
