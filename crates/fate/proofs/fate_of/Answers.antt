-- `fate::fate_of` meets its contract: a refusal has its number, and what is handed out is one of `WaysOut`.
-- Assumes nothing.
use Rattle.fate.proofs.WaysOut.{on_clean, on_repaired}
use Rattle.fate.proofs.fate_of.Goals as goal

pub returns-then-changed-eq0 : goal.returns-then-changed-eq0
returns-then-changed-eq0 c = search (on_clean)

pub returns-else-changed-eq0 : goal.returns-else-changed-eq0
returns-else-changed-eq0 c = search (on_repaired)
