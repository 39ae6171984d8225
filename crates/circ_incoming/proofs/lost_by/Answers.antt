-- `circ_incoming::lost_by` meets its contract: marks 1 and 4, and no other (`Lost`).
-- Assumes nothing.
use mathlib.Core.Path.{sym, ap, ◌∙◌}
use mathlib.Core.Logic.{inl, inr}
use borrow.Author.Rules.{rules}
use Rattle.circ.specs.Marks.{lost_by}
use Rattle.circ.specs.Marks.Lost.{lost_by_one, lost_by_four, lost_by_no_other}
use Rattle.circ_incoming.proofs.lost_by.Goals as goal

pub returns-in-1 : goal.returns-in-1
returns-in-1 c =
    elim c.in-1.is [
      | inl e ↦ sym (ap lost_by e ∙ lost_by_one)
      | inr e ↦ sym (ap lost_by e ∙ lost_by_four)
    ]

pub returns-in_default : goal.returns-in_default
returns-in_default c = sym (lost_by_no_other _ (search rules) (search rules))
