-- `empty_sectors::turn` meets its contract: it stops where a read brought nothing, or says the Sector's line.
-- Assumes nothing.
use Rattle.std.proofs.Common.{rules}
use Rattle.empty_sectors.proofs.Turning.{stopped}
use Rattle.empty_sectors.proofs.turn.Goals as goal

pub returns-then-is_some : goal.returns-then-is_some
returns-then-is_some g c = stopped _ c.fill-filled.result c.requires c.fill-filled.ensures (search rules)
