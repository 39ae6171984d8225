-- `trial::freshen` meets its contract: the laws of `Steps` follow the Sector from call to call.
-- Assumes nothing.
use mathlib.Core.Path.{sym}
use native.Mathlib.Omega.{arith}
use lib.Seq.{length-take-le}
use Rattle.rspc.specs.Place.One.{of_other}
use Rattle.trial.proofs.Steps.{freshened}
use Rattle.trial.proofs.freshen.Goals as goal

pub returns-then-s-ne2352 : goal.returns-then-s-ne2352
returns-then-s-ne2352 c = of_other c.if-s-ne2352.true

pub slice_bounds-copy-end-3 : goal.slice_bounds-copy-end-3
slice_bounds-copy-end-3 c =
    sym (length-take-le 12 c.args.s.now (omega (arith, c.if-s-ne2352.false)))

pub returns : goal.returns
returns c =
    let put = c.put_q in
    freshened c.args.s.now c.sync_field-sync.result c.copy.new.to c.copy.result c.if-s-ne2352.false
    c.sync_field-sync.ensures c.copy.ensures put.new.s put.result (λ i. (c.slice_known-3-1.given i).fits) put.ensures
