-- `fate_counts::Counts::counted` meets its contract: each arm changes the two counts that `counted_with` changes in its case.
-- Assumes nothing.
use mathlib.Core.Path.{refl, sym, ap, ◌∙◌}
use Rattle.fate_counts.specs.Counting.{counted_with}
use Rattle.fate_counts.specs.Counting.Added.{same_counts}
use Rattle.fate_counts.proofs.Counts.counted.Goals as goal

pub returns-in-Clean : goal.returns-in-Clean
returns-in-Clean c =
    same_counts _ _ c.one_more.ensures c.one_more-in-Clean.ensures refl refl
    ∙ sym (ap (counted_with c.args.self) c.in-Clean.is)

pub returns-in-Repaired : goal.returns-in-Repaired
returns-in-Repaired c =
    same_counts _ _ c.one_more.ensures refl c.one_more-in-Repaired.ensures refl
    ∙ sym (ap (counted_with c.args.self) c.in-Repaired.is)

pub returns-in-Refused : goal.returns-in-Refused
returns-in-Refused c =
    same_counts _ _ c.one_more.ensures refl refl c.one_more-in-Refused.ensures
    ∙ sym (ap (counted_with c.args.self) c.in-Refused.is)
