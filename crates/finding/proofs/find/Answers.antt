-- `finding::find` meets its contract: each way out is a law of `WaysOut`, whose premises are what the tests and the private functions said.
-- Assumes nothing.
use mathlib.Core.Path.{sym, ap, ◌∙◌}
use Prim.Native.Nat.{ℕ}
use native.Mathlib.Omega.{arith}
use lib.ListN.{length, replicate}
use Rattle.outcome.specs.Say.{cleared}
use Rattle.alignment.specs.Row.Counted.{row-whole, row_most}
use Rattle.alignment.specs.Found.WaysOut.{room_is, on_incoming, on_outgoing, on_none, on_found}
use Rattle.finding.proofs.find.Goals as goal

pub returns-then-not-in_row : goal.returns-then-not-in_row
returns-then-not-in_row c =
    on_incoming _ _ _ (sym c.in_row.ensures ∙ c.if-not-in_row.true)
    (c.wipe.ensures ∙ ap (λ (m : ℕ). cleared m c.args.out.now) (sym room_is))

pub returns-then-out-ne-ROOM : goal.returns-then-out-ne-ROOM
returns-then-out-ne-ROOM c =
    on_outgoing _ _ (sym c.in_row.ensures ∙ c.if-not-in_row.false) (λ e. c.if-out-ne-ROOM.true (e ∙ room_is))

pub first_sync-requires : goal.first_sync-requires
first_sync-requires c =
    let bytes = length c.args.frames.now in
    let row = sym c.in_row.ensures ∙ c.if-not-in_row.false in
    (row-whole 24 2730 bytes row, omega (arith, row-whole 24 2730 bytes row, row_most 24 2730 bytes row))

pub returns-in_default : goal.returns-in_default
returns-in_default c =
    let long = c.if-out-ne-ROOM.false ∙ sym room_is in
    on_none _ _ _ (sym c.in_row.ensures ∙ c.if-not-in_row.false) long c.in_default.ensures (c.fill.ensures.after (λ y e. e) ∙ ap (λ (m : ℕ). replicate m 0) long)

pub put_sectors-count-requires : goal.put_sectors-count-requires
put_sectors-count-requires c =
    let frames = c.args.frames.now in
    let row = sym c.in_row.ensures ∙ c.if-not-in_row.false in
    let at = c.in-Some.ensures in (
      row-whole 24 2730 (length frames) row,
      omega (arith, row-whole 24 2730 (length frames) row, row_most 24 2730 (length frames) row),
      at.1,
      at.3,
      c.if-out-ne-ROOM.false,
    )

pub returns : goal.returns
returns c =
    let at = c.in-Some.ensures in
    rw c.put_sectors-count.ensures.0
    (on_found _ _ _ _ _ (sym c.in_row.ensures ∙ c.if-not-in_row.false) (c.if-out-ne-ROOM.false ∙ sym room_is)
    at.0 at.1 at.2 c.put_sectors-count.ensures.1)
