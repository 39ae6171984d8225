-- `report_lines::tell` meets its contract: the line that is said is the one that leads to the counts after it.
-- Assumes nothing.
use Rattle.report_lines.proofs.Steps.{tellable}
use Rattle.report_lines.proofs.tell.Goals as goal

pub say-requires : goal.say-requires
say-requires g c = tellable c.args.counts c.counted.result c.args.fate c.counted.ensures c.fate_line-line.result c.requires c.fate_line-line.ensures
