-- `frame_reader::read_frame` meets its contract: each way out is a law of `WaysOut`.
-- Assumes nothing.
use Rattle.frame_reader.proofs.WaysOut.{ways, on_done}
use Rattle.std.proofs.Common.{ap, sym, ◌∙◌, not, drop, arith, length-drop}
use lib.Seq.{length-take-le}
use Rattle.outcome.specs.Buffer.Lengths.{same_lengths}
use Rattle.frame_reader.proofs.read_frame.Goals as goal

pub returns-then-frame-ne2064 : goal.returns-then-frame-ne2064
returns-then-frame-ne2064 c = search ways

pub returns-then-main-ne2048 : goal.returns-then-main-ne2048
returns-then-main-ne2048 c = search ways

pub returns-then-not-is_identified : goal.returns-then-not-is_identified
returns-then-not-is_identified c = search ways

pub returns-then-not-holds : goal.returns-then-not-holds
returns-then-not-holds c = search ways

pub returns-then-not-reserved_are_zero : goal.returns-then-not-reserved_are_zero
returns-then-not-reserved_are_zero c = search ways

pub returns : goal.returns
returns c =
    let rest = drop 12 c.args.frame.now in
    let long = length-take-le 2048 rest (omega (arith, length-drop 12 c.args.frame.now, c.if-frame-ne2064.false)) in
    on_done _ _ _ c.if-frame-ne2064.false c.if-main-ne2048.false _ c.is_identified.ensures (ap not c.if-not-is_identified.false) _
    c.holds.ensures (ap not c.if-not-holds.false) _ c.reserved_are_zero.ensures (ap not c.if-not-reserved_are_zero.false)
    (same_lengths _ _ _ _ _ _ c.copy.ensures (long ∙ sym c.if-main-ne2048.false))
    c.fields_of.result c.fields_of.ensures
