-- `section_writer::SectionWriter::write` meets its contract: each way out is a law of `WaysOut`.
-- Assumes nothing.
use mathlib.Core.Path.{◌≡◌, sym, ◌∙◌}
use mathlib.Core.Bool.{true, false}
use borrow.Author.Tests.{ltb-true}
use mir.Syntax.{w64}
use mir.Val.{SFits}
use Rattle.section_writer.specs.State.{right}
use Rattle.section_writer.proofs.WaysOut.{wrong_incoming, wrong_out, wrong_state, full, all_written, by_refusal, right_is, begins_as, begins-due}
use Rattle.section_writer.proofs.SectionWriter.write.Goals as goal

pub returns-then-frames-ne3136 : goal.returns-then-frames-ne3136
returns-then-frames-ne3136 c =
    let a = c.args in
    by_refusal c.refuse.result a.self _ _ _ c.refuse.ensures
    (wrong_incoming a.self a.frames.now a.control.now a.out.now c.then-frames-ne3136.either _ c.wipe.ensures)

pub returns-then-out-ne7203 : goal.returns-then-out-ne7203
returns-then-out-ne7203 c =
    let a = c.args in
    by_refusal c.refuse-then-out-ne7203.result a.self _ _ _ c.refuse-then-out-ne7203.ensures
    (wrong_out a.self a.frames.now a.control.now a.out.now c.if-frames-ne3136.false c.if-control-ne96.false c.if-out-ne7203.true)

pub returns-then-not-possible : goal.returns-then-not-possible
returns-then-not-possible c =
    let a = c.args in
    let g = c.struct_told-1.given in
    let k : SFits w64 a.self.dsv = record { sfits = g.0.1 } in
    let f : SFits w64 a.self.level = record { sfits = g.1.0.1 } in
    let r : right a.self ≡ false = right_is a.self k f _ false c.is_possible-possible.ensures c.if-not-possible.true in
    by_refusal c.refuse-then-not-possible.result a.self _ _ _ c.refuse-then-not-possible.ensures
    (wrong_state a.self a.frames.now a.control.now a.out.now c.if-frames-ne3136.false c.if-control-ne96.false c.if-out-ne7203.false r _ c.clear.ensures)

pub returns-then-not-room : goal.returns-then-not-room
returns-then-not-room c =
    let a = c.args in
    let g = c.struct_told-1.given in
    let k : SFits w64 a.self.dsv = record { sfits = g.0.1 } in
    let f : SFits w64 a.self.level = record { sfits = g.1.0.1 } in
    let r : right a.self ≡ true = right_is a.self k f _ true c.is_possible-possible.ensures c.if-not-possible.false in
    by_refusal c.refuse-then-not-room.result a.self _ _ _ c.refuse-then-not-room.ensures
    (full a.self a.frames.now a.control.now a.out.now c.if-frames-ne3136.false c.if-control-ne96.false c.if-out-ne7203.false r (sym c.has_room-room.ensures ∙ c.if-not-room.true) _ c.clear-then-not-room.ensures)

pub advance-requires : goal.advance-requires
advance-requires c =
    let a = c.args in
    let g = c.struct_told-1.given in
    let k : SFits w64 a.self.dsv = record { sfits = g.0.1 } in
    let f : SFits w64 a.self.level = record { sfits = g.1.0.1 } in
    let r : right a.self ≡ true = right_is a.self k f _ true c.is_possible-possible.ensures c.if-not-possible.false in (
      (c.write_frames-after.ensures.laid (begins-due a.self _ a.frames.now a.control.now a.out.now c.if-frames-ne3136.false c.if-control-ne96.false c.if-out-ne7203.false r (begins_as a.self k f _ c.begin-before.ensures))).within,
      ltb-true _ _ (sym c.has_room-room.ensures ∙ c.if-not-room.false),
    )

pub returns : goal.returns
returns c =
    let a = c.args in
    let g = c.struct_told-1.given in
    let k : SFits w64 a.self.dsv = record { sfits = g.0.1 } in
    let f : SFits w64 a.self.level = record { sfits = g.1.0.1 } in
    let r : right a.self ≡ true = right_is a.self k f _ true c.is_possible-possible.ensures c.if-not-possible.false in
    let b = begins_as a.self k f _ c.begin-before.ensures in
    let d = c.write_frames-after.ensures.laid (begins-due a.self _ a.frames.now a.control.now a.out.now c.if-frames-ne3136.false c.if-control-ne96.false c.if-out-ne7203.false r b) in
    all_written a.self a.frames.now a.control.now a.out.now c.if-frames-ne3136.false c.if-control-ne96.false c.if-out-ne7203.false r (sym c.has_room-room.ensures ∙ c.if-not-room.false) c.begin-before.result c.write_frames-after.result c.advance.result _
    b d c.advance.ensures (λ i. (c.type_inv.out i).fits) d.long
