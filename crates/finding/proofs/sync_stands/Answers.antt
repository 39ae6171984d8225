-- `finding::sync_stands` meets its contract: Sync stands in order where it stands exchanged (`stands`).
-- Assumes nothing.
use mathlib.Core.Path.{◌∙◌}
use Rattle.finding.proofs.SyncInFrames.{stands}
use Rattle.finding.proofs.sync_stands.Goals as goal

pub returns : goal.returns
returns c = c.sync_at.ensures ∙ stands _ _ _ c.requires.0
