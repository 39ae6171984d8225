-- `join` meets its contract: on 2,352 bytes the definition is the exchange of all pairs (`of_exchanged`).
-- Assumes nothing.
use mathlib.Core.Path.{sym, ◌∙◌}
use Rattle.entry.specs.Entry.WaysOut.{alike}
use Rattle.pair_exchange.specs.Exchange.{exchanged}
use Rattle.f1_frames.specs.Frames.{join}
use Rattle.f1_frames.specs.Frames.Placed.{of_exchanged}
use Rattle.f1_frames.proofs.join.Goals as goal

pub returns : goal.returns
returns c =
    c.exchange.ensures ∙ sym (alike join exchanged (of_exchanged 98) c.args.frames.now c.args.out.now)
