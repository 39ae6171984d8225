-- `mending::q_pass` meets its contract: what the sweep over the rows makes are the sums that mending asks for (`q_rows_lem`).
-- Assumes nothing.
use mathlib.Core.Path.{refl, sym, subst}
use mathlib.Core.List.{List}
use Prim.Native.Nat.{ℕ}
use native.Mathlib.Omega.{arith}
use Rattle.rspc.specs.declared.Parity.TheVariants.{Q}
use Rattle.rspc.specs.Place.One.{of_sector, of_other}
use Rattle.q_rows.specs.Laid.WaysOut.{all_laid}
use Rattle.mending.proofs.Rows.{InRows, q_rows_lem, swept_sums}
use Rattle.mending.proofs.q_pass.Goals as goal

pub returns-then-s-ne2352 : goal.returns-then-s-ne2352
returns-then-s-ne2352 c = of_other c.if-s-ne2352.true

pub mend_all-requires : goal.mend_all-requires
mend_all-requires c =
    let long = c.if-s-ne2352.false in
    let rows = subst (λ (l : List ℕ). InRows Q c.args.s.now l) (sym (all_laid long refl c.lay_rows.ensures)) (q_rows_lem _ long) in
    (long, swept_sums Q rows refl refl (omega arith) c.sums.ensures)

pub returns : goal.returns
returns c = of_sector c.if-s-ne2352.false c.mend_all.ensures
