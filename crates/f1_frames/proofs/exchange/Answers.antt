-- `exchange` meets its contract: each way out is a law of `Entry`, whose premises are what the tests and `exchange_pairs` said.
-- Assumes nothing.
use mathlib.Core.Path.{sym, ap, ◌∙◌}
use Prim.Native.Nat.{ℕ, ◌%◌}
use Rattle.entry.specs.Entry.WaysOut.{on_incoming, on_outgoing, on_done}
use Rattle.pair_exchange.specs.Exchange.{exchanged}
use Rattle.pair_exchange.specs.Exchange.Whole.{exchanged-whole}
use Rattle.f1_frames.proofs.exchange.Goals as goal

pub returns-then-from-ne-SECTOR : goal.returns-then-from-ne-SECTOR
returns-then-from-ne-SECTOR c = on_incoming exchanged _ _ _ c.if-from-ne-SECTOR.true c.wipe.ensures

pub returns-then-out-ne-SECTOR : goal.returns-then-out-ne-SECTOR
returns-then-out-ne-SECTOR c = on_outgoing exchanged _ _ c.if-from-ne-SECTOR.false c.if-out-ne-SECTOR.true

pub returns : goal.returns
returns c =
    let l = c.if-from-ne-SECTOR.false in
    on_done exchanged _ _ _ l c.if-out-ne-SECTOR.false
    (exchanged-whole c.args.from.now c.args.out.now _ _ c.exchange_pairs.ensures (l ∙ sym c.if-out-ne-SECTOR.false) (ap (λ (n : ℕ). n % 24) l))
