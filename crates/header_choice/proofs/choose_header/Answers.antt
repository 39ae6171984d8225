-- `header_choice::choose_header` meets its contract: what stands for the Merging bits that are chosen is the choice (`tail_chosen`).
-- Assumes nothing.
use mathlib.Core.Path.{◌≡◌, sym, ◌∙◌}
use mathlib.Core.Bool.{true, false}
use Rattle.header_choice.specs.HeaderChoice.{tail_choice}
use Rattle.traces.specs.Traces.{fits}
use Rattle.traces.specs.Traces.Room.{fits_fit}
use Rattle.header_choice.proofs.Candidates.{tail_chosen}
use Rattle.header_choice.proofs.choose_header.Goals as goal

pub best-c-requires : goal.best-c-requires
best-c-requires c = fits_fit _ (sym c.is_fit.ensures ∙ c.if-is_fit.true)

pub returns-then-is_fit : goal.returns-then-is_fit
unfolding tail_choice
returns-then-is_fit c =
    let t = c.args.t in
    let e : fits t ≡ true = sym c.is_fit.ensures ∙ c.if-is_fit.true in
    rw e (tail_chosen t c.best-c.result _ (fits_fit t e) c.best-c.ensures c.merged.ensures)

pub returns : goal.returns
unfolding tail_choice
returns c =
    let e : fits c.args.t ≡ false = sym c.is_fit.ensures ∙ c.if-is_fit.false in
    rw e
