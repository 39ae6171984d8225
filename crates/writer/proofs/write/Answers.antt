-- `writer::write` meets its contract: each way out is a law of `WaysOut`.
-- Assumes nothing.
use mathlib.Core.Path.{sym, ◌∙◌}
use Rattle.writer.proofs.WaysOut.{ways, on_done}
use Rattle.std.proofs.Common.{ap, not}
use Rattle.writer.proofs.write.Goals as goal

pub returns-then-out-ne2352 : goal.returns-then-out-ne2352
returns-then-out-ne2352 c = search ways

pub returns-then-not-is_written : goal.returns-then-not-is_written
returns-then-not-is_written c = search ways

pub returns-then-user-right : goal.returns-then-user-right
returns-then-user-right c = search ways

pub returns-then-not-in_range : goal.returns-then-not-in_range
returns-then-not-in_range c = search ways

pub make-s-requires : goal.make-s-requires
make-s-requires c =
    record {
      mode_written = sym c.is_written.ensures ∙ c.if-not-is_written.false;
      fits = c.if-user-right.false ∙ c.user_length-right.ensures;
      range = sym c.in_range.ensures ∙ c.if-not-in_range.false;
    }

pub returns : goal.returns
returns c =
    on_done
    _
    _
    _
    _
    _
    c.if-out-ne2352.false
    _
    c.is_written.ensures
    (ap not c.if-not-is_written.false)
    _
    c.user_length-right.ensures
    c.if-user-right.false
    _
    c.in_range.ensures
    (ap not c.if-not-in_range.false)
    _
    c.make-s.ensures
    _
    c.copy.ensures
    (λ i. (c.slice_known-2-1.given i).fits)
