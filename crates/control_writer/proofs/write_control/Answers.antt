-- `control_writer::write_control` meets its contract: each way out is a law of `WaysOut`; the bytes are those of the fields (`control_coded`).
-- Assumes nothing.
use mathlib.Core.Path.{sym, ap, ◌∙◌}
use Rattle.control.specs.Channels.{p_bit, framed}
use Rattle.control.specs.FieldBytes.{field_bytes}
use Rattle.control_writer.specs.Inner.Coded.{control_coded}
use Rattle.control_writer.proofs.WaysOut.{on_length, on_fields, on_done}
use Rattle.control_writer.proofs.write_control.Goals as goal

pub returns-then-out-ne96 : goal.returns-then-out-ne96
returns-then-out-ne96 c = on_length c.args.fields _ c.if-out-ne96.true

pub returns-then-not-is_allowed : goal.returns-then-not-is_allowed
returns-then-not-is_allowed c =
    on_fields c.args.fields _ c.if-out-ne96.false _
    (sym c.is_allowed.ensures ∙ c.if-not-is_allowed.true)
    (c.fill.ensures.after (λ y e. e))

pub returns : goal.returns
unfolding field_bytes
returns c =
    let f = c.args.fields in
    on_done f _ c.if-out-ne96.false _
    (sym c.is_allowed.ensures ∙ c.if-not-is_allowed.false)
    (c.copy_from_slice.ensures.after
    ∙ c.spread.ensures ∙ ap (framed (p_bit f.flag)) c.q_bytes-q.ensures ∙ control_coded f)
