-- `header_choice::after_header` meets its contract: the tally goes over the Sync Header where it has room (`spent_header`).
-- Assumes nothing.
use mathlib.Core.Path.{◌≡◌, sym, ◌∙◌}
use mathlib.Core.Bool.{true, false}
use Rattle.header_choice.specs.HeaderChoice.{after_header}
use Rattle.traces.specs.Traces.{light}
use Rattle.traces.specs.Traces.Room.{light-room}
use Rattle.header_choice.proofs.Candidates.{spent_header}
use Rattle.header_choice.proofs.after_header.Goals as goal

pub returns-then-is_light : goal.returns-then-is_light
unfolding after_header
returns-then-is_light c =
    let t = c.args.t in
    let e : light t ≡ true = sym c.is_light.ensures ∙ c.if-is_light.true in
    rw (e, c.spend.ensures, spent_header t (light-room t e))

pub returns : goal.returns
unfolding after_header
returns c =
    let e : light c.args.t ≡ false = sym c.is_light.ensures ∙ c.if-is_light.false in
    rw e
