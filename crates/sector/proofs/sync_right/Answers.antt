-- `sector::sync_right` meets its contract: the field is Sync.
-- Assumes nothing.
use Rattle.sector.proofs.Compared.{sync-first}
use Rattle.sector.proofs.sync_right.Goals as goal

pub returns : goal.returns
returns c = search sync-first
