-- `header_choice::best` meets its contract: the better of two choices stands for the better of their Merging bits (`header_chosen`).
-- Assumes nothing.
use mathlib.Core.Path.{◌≡◌, sym, ◌∙◌, subst}
use Rattle.traces.specs.declared.Choice.{Choice}
use Rattle.header_choice.specs.Inner.{HeaderStands}
use Rattle.traces.specs.Better.{better_of}
use Rattle.header_choice.specs.HeaderChoice.{before_next_header}
use Rattle.header_choice.proofs.Candidates.{with_one, with_zeros, header_chosen}
use Rattle.header_choice.proofs.best.Goals as goal

pub returns : goal.returns
returns c =
    let t = c.args.t in
    let both : better_of (record { bits = 4; after = record { run = c.header_after_one.result; tally = c.spend.result } }) (record { bits = 0; after = record { run = c.header_after_zeros.result; tally = c.spend-2.result } })
    ≡ better_of (with_one t) (with_zeros t)
    = λ i.
    better_of (record { bits = 4; after = record { run = c.header_after_one.ensures i; tally = c.spend.ensures i } })
    (record { bits = 0; after = record { run = c.header_after_zeros.ensures i; tally = c.spend-2.ensures i } }) in
    subst (λ (z : Choice). HeaderStands t z (before_next_header t)) (sym (c.better_of.ensures ∙ both)) (header_chosen t c.requires)
