-- `salvage_passes::tries` meets its contract: what is freshened is tried, and judging decides.
-- Assumes nothing.
use Rattle.salvage_passes.proofs.tries.Goals as goal

pub returns : goal.returns
returns c =
    record { whole = c.freshen.result; fresh = c.freshen.ensures; decides = c.is_correct.ensures }
