-- `report_lines::last` meets its contract: the last line leads from before it to the report's end.
-- Assumes nothing.
use Rattle.report_run.specs.Run.{closes}
use Rattle.report_lines.proofs.Steps.{sayable}
use Rattle.report_lines.proofs.last.Goals as goal

pub say-requires : goal.say-requires
say-requires g c = sayable _ c.last_line-line.result c.last_line-line.ensures closes
