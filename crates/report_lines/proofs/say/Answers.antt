-- `report_lines::say` meets its contract: the line went out, or the report ends.
-- Assumes nothing.
use Rattle.report_lines.proofs.Steps.{said}
use Rattle.report_lines.proofs.say.Goals as goal

pub returns : goal.returns
returns g c = said _ c.args.next c.after_line.result c.print.result c.requires c.after_line.ensures
