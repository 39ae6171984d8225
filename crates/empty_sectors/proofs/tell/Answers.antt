-- `empty_sectors::tell` meets its contract: what is said is the line of what was found (`sayable`).
-- Assumes nothing.
use Rattle.std.proofs.Common.{refl}
use Rattle.empty_sectors.proofs.Turning.{sayable}
use Rattle.empty_sectors.proofs.tell.Goals as goal

pub say-requires : goal.say-requires
say-requires g c = sayable c.args.sector.now _ c.find.result _ c.requires c.find.ensures c.in-Some.is c.address_line-line.ensures

pub say-requires-in-None : goal.say-requires-in-None
say-requires-in-None g c = sayable c.args.sector.now _ c.find.result _ c.requires c.find.ensures c.in-None.is refl
