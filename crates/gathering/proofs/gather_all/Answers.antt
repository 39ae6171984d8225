-- `gathering::gather_all` meets its contract. The loop's invariant: the first m rows are there (`Filling`).
-- Assumes nothing.
use mathlib.Core.Path.{sym, ◌∙◌}
use Prim.Native.Nat.{◌-◌, ◌+◌, ◌*◌}
use native.Mathlib.Omega.{arith}
use lib.ListN.{drop, length-take, length-drop}
use Rattle.outcome.specs.Buffer.Filled.{filling-none, filling_long, filling_all}
use Rattle.gathering.specs.Rows.Columns.{length-rows}
use Rattle.gathering.proofs.Gathering.{rows_more}
use Rattle.gathering.proofs.gather_all.Goals as goal

pub loop-m-init : goal.loop-m-init
loop-m-init c = filling-none _ _ (c.requires.1 ∙ sym (length-rows c.args.s.now))

pub gather_row-requires : goal.gather_row-requires
gather_row-requires c =
    let m = c.loop-m.m in
    let rows = c.loop-m.rows in (
      c.requires.0,
      c.loop-m-test.true,
      omega (
        arith,
        filling_long c.loop-m.invariant,
        length-take (52 * m + 52 - 52 * m) (drop (52 * m) rows),
        length-drop (52 * m) rows,
        c.requires.1,
      ),
    )

pub loop-m-preserved : goal.loop-m-preserved
loop-m-preserved c =
    rows_more c.args.s.now c.loop-m.invariant _ c.loop-m-test.true
    c.gather_row.ensures

pub shape_of-rows : goal.shape_of-rows
shape_of-rows c = filling_long c.loop-m.invariant

pub returns : goal.returns
returns c = filling_all c.loop-m.invariant (omega (arith, length-rows c.args.s.now))
