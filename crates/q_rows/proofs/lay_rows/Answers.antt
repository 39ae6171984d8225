-- `q_rows::lay_rows` meets its contract: the copy stands behind the gathered rows (`laid-rows`).
-- Assumes nothing.
use mathlib.Core.Path.{sym}
use native.Mathlib.Omega.{arith}
use lib.Seq.{length-take-le}
use Rattle.q_rows.specs.Laid.WaysOut.{other_sector, other-room, room-filled}
use Rattle.q_rows.proofs.Behind.{laid-rows}
use Rattle.q_rows.proofs.lay_rows.Goals as goal

pub returns-then-s-ne2352 : goal.returns-then-s-ne2352
returns-then-s-ne2352 c = other_sector _ _ c.if-s-ne2352.true

pub returns-then-rows-ne2340 : goal.returns-then-rows-ne2340
returns-then-rows-ne2340 c = other-room _ _ c.if-s-ne2352.false c.if-rows-ne2340.true

pub slice_bounds-gather-end-2 : goal.slice_bounds-gather-end-2
slice_bounds-gather-end-2 c = sym (length-take-le 2236 c.args.rows.now (omega arith))

pub returns : goal.returns
returns c =
    room-filled c.args.s.now c.args.rows.now _ c.if-s-ne2352.false c.if-rows-ne2340.false
    (laid-rows c.args.s.now c.args.rows.now c.gather.new.rows c.copy.new.to c.gather.result
    c.copy.result c.if-s-ne2352.false c.if-rows-ne2340.false c.gather.ensures c.copy.ensures)
