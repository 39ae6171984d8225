-- `exchange_pairs` meets its contract: each way out is a law of `Whole`.
-- Assumes nothing.
use mathlib.Core.Path.{refl}
use Rattle.pair_exchange.specs.Exchange.Whole.{unlike, broken, whole}
use Rattle.pair_exchange.proofs.exchange_pairs.Goals.{then-from-out-via-then-from-out, then-from-out-via-else-from-out+then-from-ne0}
use Rattle.pair_exchange.proofs.exchange_pairs.Goals as goal

pub returns-then-from-out : goal.returns-then-from-out
returns-then-from-out c =
    elim c.then-from-out.branch [
      | then-from-out-via-then-from-out w ↦ (unlike c.args.from.now c.args.out.now w.if-from-out.true, refl)
      | then-from-out-via-else-from-out+then-from-ne0 w ↦ (broken c.args.from.now c.args.out.now w.if-from-out.false w.if-from-ne0.true, refl)
    ]

pub returns : goal.returns
returns c =
    (whole c.args.from.now c.args.out.now c.if-from-out.false c.if-from-ne0.false, c.put_exchanged.ensures)
