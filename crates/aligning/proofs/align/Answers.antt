-- `aligning::align` meets its contract: each way out is a law of `WaysOut`, whose premises are what the tests and `put_aligned` said.
-- Assumes nothing.
use mathlib.Core.Path.{sym, ◌∙◌}
use native.Mathlib.Omega.{arith}
use lib.ListN.{length}
use Rattle.alignment.specs.Row.Counted.{row-whole, row_most}
use Rattle.alignment.specs.Aligned.WaysOut.{on_incoming, on_place, on_outgoing, on_done}
use Rattle.aligning.proofs.align.Goals as goal

pub returns-then-not-in_row : goal.returns-then-not-in_row
returns-then-not-in_row c = on_incoming _ _ _ (sym c.in_row.ensures ∙ c.if-not-in_row.true)

pub returns-then-n-gt5 : goal.returns-then-n-gt5
returns-then-n-gt5 c =
    on_place _ _ _ (sym c.in_row.ensures ∙ c.if-not-in_row.false) c.if-n-gt5.true

pub frame_bytes-requires : goal.frame_bytes-requires
frame_bytes-requires c =
    let bytes = length c.args.sectors.now in
    let row = sym c.in_row.ensures ∙ c.if-not-in_row.false in
    (c.if-n-gt5.false, omega (arith, row-whole 2352 16 bytes row, row_most 2352 16 bytes row))

pub returns-then-out-frame_bytes : goal.returns-then-out-frame_bytes
returns-then-out-frame_bytes c =
    on_outgoing _ _ _ (sym c.in_row.ensures ∙ c.if-not-in_row.false) c.if-n-gt5.false
    (λ e. c.if-out-frame_bytes.true (e ∙ sym c.frame_bytes.ensures))

pub put_aligned-requires : goal.put_aligned-requires
put_aligned-requires c = (
  sym c.in_row.ensures ∙ c.if-not-in_row.false,
  c.if-n-gt5.false,
  c.if-out-frame_bytes.false ∙ c.frame_bytes.ensures,
)

pub returns : goal.returns
returns c =
    on_done _ _ _ _ (sym c.in_row.ensures ∙ c.if-not-in_row.false) c.if-n-gt5.false
    (c.if-out-frame_bytes.false ∙ c.frame_bytes.ensures) c.put_aligned.ensures
