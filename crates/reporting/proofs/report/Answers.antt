-- `reporting::report` meets its contract: the turns begin where the first line led (`Ends`).
-- Assumes nothing.
use Rattle.reporting.proofs.Ends.{opened}
use Rattle.reporting.proofs.report.Goals as goal

pub turns-run-requires : goal.turns-run-requires
turns-run-requires g c = opened c.open.result c.open.ensures
