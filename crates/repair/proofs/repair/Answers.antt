-- `repair::repair` meets its contract: each way out is a law of `WaysOut`.
-- Assumes nothing.
use mathlib.Core.Path.{sym}
use Rattle.repair.proofs.WaysOut.{ways, on_none, on_found}
use Rattle.std.proofs.Common.{ap, not}
use Rattle.repair.proofs.repair.Goals as goal

pub returns-then-received-ne2352 : goal.returns-then-received-ne2352
returns-then-received-ne2352 c = search ways

pub returns-then-out-ne2352 : goal.returns-then-out-ne2352
returns-then-out-ne2352 c = search ways

pub slice_bounds-rules_right-end : goal.slice_bounds-rules_right-end
slice_bounds-rules_right-end c = sym (c.candidate-near.ensures.sector c.if-received-ne2352.false).1.tried.long

pub returns-then-not-near-right : goal.returns-then-not-near-right
returns-then-not-near-right c =
    on_none _ _ _ (λ i. (c.shared_slice_known-1.given i).fits) c.if-received-ne2352.false c.if-out-ne2352.false _ _ _
    c.candidate-near.ensures _ c.rules_right-right.ensures (ap not c.if-not-near-right.true) c.clear.ensures

pub slice_bounds-hand_out-end : goal.slice_bounds-hand_out-end
slice_bounds-hand_out-end c =
    sym (c.candidate-near.ensures.sector c.if-received-ne2352.false).1.tried.long

pub returns : goal.returns
returns c =
    on_found _ _ _ (λ i. (c.shared_slice_known-1.given i).fits) c.if-received-ne2352.false c.if-out-ne2352.false _ _ _
    c.candidate-near.ensures _ c.rules_right-right.ensures (ap not c.if-not-near-right.false) _ c.hand_out.ensures
