-- `lost_errors::error_of` meets its contract: `error_kept` or `error_lost` for each way out.
-- Assumes nothing.
use mathlib.Core.Path.{sym, ◌∙◌}
use Rattle.erasures.specs.Errors.Right.{error_kept, error_lost}
use Rattle.lost_errors.proofs.error_of.Goals as goal

pub returns-then-marks-p-eq0 : goal.returns-then-marks-p-eq0
returns-then-marks-p-eq0 c = let a = c.args in sym (error_kept a.marks.now a.s a.p c.if-marks-p-eq0.true)

pub returns : goal.returns
returns c =
    let a = c.args in
    c.error_at.ensures ∙ sym (error_lost a.marks.now a.s a.p c.if-marks-p-eq0.false)
