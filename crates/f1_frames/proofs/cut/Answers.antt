-- `cut` meets its contract: on 2,352 bytes the definition is the exchange of all pairs (`f1-exchanged`).
-- Assumes nothing.
use mathlib.Core.Path.{sym, ◌∙◌}
use Rattle.entry.specs.Entry.WaysOut.{alike}
use Rattle.pair_exchange.specs.Exchange.{exchanged}
use Rattle.f1_frames.specs.Frames.{cut}
use Rattle.f1_frames.specs.Frames.Placed.{f1-exchanged}
use Rattle.f1_frames.proofs.cut.Goals as goal

pub returns : goal.returns
returns c =
    c.exchange.ensures ∙ sym (alike cut exchanged (f1-exchanged 98) c.args.scrambled.now c.args.out.now)
