-- `report_lines::tail` meets its contract: the count of leftover bytes leads to before the last line.
-- Assumes nothing.
use Rattle.text.specs.Report.{tail_line}
use Rattle.report_run.specs.Run.{counts_left}
use Rattle.report_lines.proofs.Steps.{sayable}
use Rattle.report_lines.proofs.tail.Goals as goal

pub say-requires : goal.say-requires
say-requires g c = sayable (tail_line c.args.left) _ c.tail_line-line.ensures counts_left
