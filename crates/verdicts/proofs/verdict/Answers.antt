-- `verdicts::verdict` meets its contract: `verdict-found` joins the sums, their fault and its cure; a fault lies inside the word by
-- `fault_inside`.
-- Assumes nothing.
use mathlib.Core.Path.{sym, ◌∙◌}
use Rattle.codeword.specs.Fault.Decides.{fault_inside}
use Rattle.verdicts.proofs.Found.{verdict-found}
use Rattle.verdicts.proofs.verdict.Goals as goal

pub cured-requires : goal.cured-requires
cured-requires g c = λ i e p. fault_inside _ _ i e (sym c.fault.ensures ∙ p)

pub returns : goal.returns
returns g c =
    verdict-found g.row.N _ c.sums.ensures c.fault.ensures c.cured.ensures
