-- `writer::lay_out` meets its contract: two copies into a blank Sector lay it out (`LayOut`).
-- Assumes nothing.
use mathlib.Core.Path.{sym, ap, ◌∙◌}
use native.Mathlib.Omega.{arith}
use lib.ListN.{length}
use lib.Seq.{length-take-le}
use Rattle.sector.specs.Layout.Zeros.{length-zeros}
use Rattle.writer.proofs.LayOut.{laid_out, first_copied, user_copied}
use Rattle.writer.proofs.lay_out.Goals as goal

pub slice_bounds-copy-end-2 : goal.slice_bounds-copy-end-2
slice_bounds-copy-end-2 c = sym (length-take-le 16 c.blank-s.result (omega (arith, ap length c.blank-s.ensures, length-zeros 2352)))

pub returns : goal.returns
returns c =
    let mode = c.args.mode in
    let time = c.args.time in
    let user = c.args.user.now in
    let blank = c.blank-s in
    let first = c.front_of-first in
    let copy = c.copy in
    let copy2 = c.copy-2 in
    let e = first_copied mode time blank.ensures first.ensures copy.result copy.new.to copy.ensures in
    laid_out mode time user blank.ensures (e ∙ first.ensures)
    (user_copied mode time blank.ensures first.ensures copy2.result copy.new.to copy2.new.to user e c.requires copy2.ensures)
