-- `exchanged_frame` meets its contract: after `pair` turns the first `pair` pairs are those of the list `exchanged` (`Exchanging`).
-- Assumes nothing.
use mathlib.Core.Path.{sym, ◌∙◌}
use native.Mathlib.Omega.{arith}
use Rattle.outcome.specs.Buffer.Filled.{filling-none, filling_all}
use Rattle.pair_exchange.specs.Exchange.Pairs.{length_exchanged}
use Rattle.pair_exchange.proofs.Exchanging.{pair_more}
use Rattle.pair_exchange.proofs.exchanged_frame.Goals as goal

pub loop-pair-init : goal.loop-pair-init
loop-pair-init c = filling-none _ _ (sym (length_exchanged c.args.bytes.now ∙ c.requires))

pub loop-pair-preserved : goal.loop-pair-preserved
loop-pair-preserved c =
    pair_more _ c.args.bytes.now _ c.loop-pair.pair c.loop-pair.invariant (omega arith)

pub returns : goal.returns
returns c = filling_all c.loop-pair.invariant (omega (arith, length_exchanged c.args.bytes.now))
