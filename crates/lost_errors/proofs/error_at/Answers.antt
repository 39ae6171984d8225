-- `lost_errors::error_at` meets its contract: from i on, t are the sums twisted by each lost byte but that at p, and f is its factor;
-- the laws of `Turned` take them one place on.
-- Assumes nothing.
use mathlib.Core.Path.{sym, ◌∙◌}
use native.Mathlib.Omega.{arith}
use lib.ListN.{length, length-set}
use Rattle.erasures.specs.Errors.{others}
use Rattle.lost_errors.proofs.Sweep.{other_self, other_kept, turned_none, turned-kept, turned_lost, turned_error}
use Rattle.lost_errors.proofs.error_at.Goals.{else-i-p-via-then-i-p+else-marks-i-ne0, else-i-p-via-else-i-p}
use Rattle.lost_errors.proofs.error_at.Goals as goal

pub overflow_sub-marks : goal.overflow_sub-marks
overflow_sub-marks c = omega (arith, c.requires)

pub overflow_sub-marks-2 : goal.overflow_sub-marks-2
overflow_sub-marks-2 c = omega (arith, c.requires)

pub loop-i-init : goal.loop-i-init
loop-i-init c =
    let a = c.args in
    turned_none (others a.marks.now a.p) a.s _ (length a.marks.now) (sym (length-set a.marks.now a.p 0))

pub loop-i-preserved-then-marks-i-ne0 : goal.loop-i-preserved-then-marks-i-ne0
loop-i-preserved-then-marks-i-ne0 c =
    turned_lost c.loop-i.invariant c.loop-i-test.true _ c.times_alpha-x.ensures
    (λ z. c.if-marks-i-ne0.true (sym (other_kept c.args.marks.now _ _ c.if-i-p.true) ∙ z)) _ _ c.twisted_by-t.ensures c.product-f.ensures

pub loop-i-preserved : goal.loop-i-preserved
loop-i-preserved c =
    turned-kept c.loop-i.invariant c.loop-i-test.true _ c.times_alpha-x.ensures
    (elim c.else-i-p.branch [
      | else-i-p-via-then-i-p+else-marks-i-ne0 w ↦ other_kept c.args.marks.now _ _ w.if-i-p.true ∙ w.if-marks-i-ne0.false
      | else-i-p-via-else-i-p w ↦ sym (other_self c.args.marks.now _ _ (omega (arith, c.loop-i.auto.i, c.loop-i-test.true)) w.if-i-p.false)
    ])

pub returns : goal.returns
returns c =
    let a = c.args in
    turned_error a.marks.now a.s a.p _ c.loop-i.invariant c.loop-i-test.false c.power_of-y.ensures
    c.inverse.ensures c.product.ensures
