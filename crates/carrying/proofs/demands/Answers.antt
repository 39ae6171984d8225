-- `carrying::demands` meets its contract: each way out is a law of `WaysOut`.
-- Assumes nothing.
use mathlib.Core.Path.{sym, ◌∙◌}
use Rattle.carrying.proofs.WaysOut.{on_fault, on_address, on_end, on_all}
use Rattle.carrying.proofs.demands.Goals as goal

pub returns-in_err-first_fault : goal.returns-in_err-first_fault
returns-in_err-first_fault c =
    on_fault c.args.n c.args.frames.now c.args.start c.requires c.from_residual.result _ c.from_residual.ensures.1 c.in_err-first_fault.ensures

pub returns-then-not-in_range : goal.returns-then-not-in_range
returns-then-not-in_range c =
    on_address _ _ _ c.requires c.in_ok-first_fault.ensures (sym c.in_range.ensures ∙ c.if-not-in_range.true)

pub returns-then-not-fits : goal.returns-then-not-fits
returns-then-not-fits c =
    on_end _ _ _ c.requires c.in_ok-first_fault.ensures (sym c.in_range.ensures ∙ c.if-not-in_range.false) (sym c.fits.ensures ∙ c.if-not-fits.true)

pub returns : goal.returns
returns c =
    on_all _ _ _ c.requires c.in_ok-first_fault.ensures (sym c.in_range.ensures ∙ c.if-not-in_range.false) (sym c.fits.ensures ∙ c.if-not-fits.false)
