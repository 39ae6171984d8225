-- `handing_out::hand_out` meets its contract: what the copy leaves, and the count of the comparison.
-- Assumes nothing.
use Rattle.handing_out.proofs.Copied.{copied}
use Rattle.handing_out.proofs.hand_out.Goals as goal

pub returns : goal.returns
returns c = copied _ _ _ _ _ _ c.copy.ensures c.count_changes.ensures
