-- `mending::p_pass` meets its contract: what the sweep over the rows makes are the sums that mending asks for (`p_rows`).
-- Assumes nothing.
use mathlib.Core.Path.{refl}
use native.Mathlib.Omega.{arith}
use Rattle.rspc.specs.declared.Parity.TheVariants.{P}
use Rattle.rspc.specs.Place.One.{of_sector, of_other}
use Rattle.mending.proofs.Rows.{p_rows, swept_sums}
use Rattle.mending.proofs.p_pass.Goals as goal

pub returns-then-s-ne2352 : goal.returns-then-s-ne2352
returns-then-s-ne2352 c = of_other c.if-s-ne2352.true

pub mend_all-requires : goal.mend_all-requires
mend_all-requires c =
    let long = c.if-s-ne2352.false in
    (long, swept_sums P (p_rows _ long) refl refl (omega arith) c.sums.ensures)

pub returns : goal.returns
returns c = of_sector c.if-s-ne2352.false c.mend_all.ensures
