-- `section_frames::pen::Pen::put` meets its contract. The invariant: the bytes written and the bits held together are the bits at the start and the new ones
-- (`Draining`); each turn moves eight bits from the one to the other (`drain_step`).
-- Assumes nothing.
use native.Mathlib.Omega.{arith}
use Rattle.section_frames.proofs.Draining.{scale_is, gathered_small, drain_start, drain_at, drain_unit, drain_unit_pos, drain_step, drain_end}
use Rattle.section_frames.proofs.pen.Pen.put.Goals as goal

pub overflow_mul-held : goal.overflow_mul-held
overflow_mul-held c = record { fits = omega (arith, gathered_small _ _ _ _ _ c.requires (scale_is c.requires)) }

pub overflow_add-held : goal.overflow_add-held
overflow_add-held c = record { fits = omega (arith, gathered_small _ _ _ _ _ c.requires (scale_is c.requires)) }

pub loop-count-init : goal.loop-count-init
loop-count-init c = drain_start _ _ _ _ _ c.requires (scale_is c.requires)

pub bounds-out-at : goal.bounds-out-at
bounds-out-at c = drain_at c.loop-count.invariant c.loop-count-test.true

pub nonzero_rem-held : goal.nonzero_rem-held
nonzero_rem-held c = drain_unit_pos c.loop-count.invariant c.loop-count-test.true

pub loop-count-preserved : goal.loop-count-preserved
loop-count-preserved c =
    let d = c.loop-count.invariant in
    let h = c.loop-count-test.true in
    rw (drain_unit d h) (drain_step d h)

pub shape_of-out : goal.shape_of-out
shape_of-out c = c.loop-count.invariant.long

pub returns : goal.returns
returns c = drain_end _ _ _ _ _ c.requires (scale_is c.requires) _ _ _ _ c.loop-count.invariant c.loop-count-test.false
