-- `salvage::salvage` meets its contract: each way out is a law of `WaysOut`.
-- Assumes nothing.
use native.Mathlib.Omega.{arith}
use Rattle.salvage.proofs.WaysOut.{in_range_lem, on_incoming, on_sector, on_list, on_passes, on_work}
use Rattle.salvage.proofs.salvage.Goals.{then-out-ne2352-via-then-out-ne2352, then-out-ne2352-via-else-out-ne2352+then-changes-ne9408, then-passes-eq0-via-then-passes-eq0, then-passes-eq0-via-else-passes-eq0+then-passes-gt-MOST_PASSES}
use Rattle.salvage.proofs.salvage.Goals as goal

pub returns-then-received-ne2352 : goal.returns-then-received-ne2352
returns-then-received-ne2352 c =
    on_incoming _ _ _ _ _ _ c.wipe.ensures c.wipe-2.ensures c.if-received-ne2352.true

pub returns-then-out-ne2352 : goal.returns-then-out-ne2352
returns-then-out-ne2352 c =
    elim c.then-out-ne2352.branch [
      | then-out-ne2352-via-then-out-ne2352 w ↦
          on_sector _ _ _ _ _ _ c.wipe.ensures c.wipe-2.ensures c.if-received-ne2352.false w.if-out-ne2352.true
      | then-out-ne2352-via-else-out-ne2352+then-changes-ne9408 w ↦
          on_list _ _ _ _ _ _ c.wipe.ensures c.wipe-2.ensures c.if-received-ne2352.false w.if-changes-ne9408.true
    ]

pub returns-then-passes-eq0 : goal.returns-then-passes-eq0
returns-then-passes-eq0 c =
    on_passes _ _ _ _ _ _ c.wipe.ensures c.wipe-2.ensures c.if-received-ne2352.false c.if-out-ne2352.false c.if-changes-ne9408.false
    (elim c.then-passes-eq0.branch [
      | then-passes-eq0-via-then-passes-eq0 w ↦ λ i. omega (arith, i.low, w.if-passes-eq0.true)
      | then-passes-eq0-via-else-passes-eq0+then-passes-gt-MOST_PASSES w ↦ λ i. omega (arith, i.high, w.if-passes-gt-MOST_PASSES.true)
    ])

pub work-requires : goal.work-requires
work-requires c = (
  c.if-received-ne2352.false,
  record { sector = c.if-out-ne2352.false; list = c.if-changes-ne9408.false },
  in_range_lem c.if-passes-eq0.false c.if-passes-gt-MOST_PASSES.false,
)

pub returns : goal.returns
returns c =
    on_work _ _ _ _ _ _ c.wipe.ensures c.wipe-2.ensures c.if-received-ne2352.false c.if-out-ne2352.false c.if-changes-ne9408.false
    (in_range_lem c.if-passes-eq0.false c.if-passes-gt-MOST_PASSES.false) c.work.ensures
