-- `reporting::close` meets its contract: nothing more is said unless the input is at its end (`Ends`).
-- Assumes nothing.
use Rattle.std.proofs.Common.{subst, rules}
use Rattle.report_stand.specs.declared.Stand.{Stand}
use Rattle.report_run.specs.Run.{Reached}
use Rattle.reporting.proofs.Ends.{ended_there, ended_well}
use Rattle.reporting.proofs.Steps.{reach}
use Rattle.reporting.proofs.close.Goals as goal

pub returns-in_default-stand : goal.returns-in_default-stand
returns-in_default-stand g c =
    ended_there c.tail-tailed.result (subst (λ (x : Stand). Reached x c.args.run.counts) c.in-AtEnd.is c.requires.reached)
    c.tail-tailed.ensures (search rules)

pub returns : goal.returns
returns g c =
    ended_well {s = c.tail-tailed.result.stand} c.last.result (search rules)
    (reach (subst (λ (x : Stand). Reached x c.args.run.counts) c.in-AtEnd.is c.requires.reached) c.tail-tailed.ensures)
    c.last.ensures
