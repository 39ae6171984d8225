-- `report_lines::open` meets its contract: it says the first line, with no Sector counted yet.
-- Assumes nothing.
use Rattle.text.specs.Report.{first_line}
use Rattle.report_lines.proofs.Steps.{sayable, openable}
use Rattle.report_lines.proofs.open.Goals as goal

pub say-requires : goal.say-requires
say-requires g c = sayable first_line _ c.first_line-line.ensures (openable _ c.none-counts.ensures)
