-- `empty_sectors::turns` meets its contract: after so many turns that many Sectors are read, and nothing else ends it early (`Turning`).
-- Assumes nothing.
use Rattle.std.proofs.Common.{◌≡◌, length}
use Rattle.empty_sectors.specs.declared.Stand.TheVariants.{Going}
use Rattle.empty_sectors.specs.Run.{Reached}
use Rattle.empty_sectors.proofs.turns.Given as goal

abbrev pub invariant-loop-made : goal.invariant-loop-made
invariant-loop-made g l = Reached l._made Going × (length l.sector ≡ 2352)
