-- `empty_sectors::say` meets its contract: the line went out, or the program ends.
-- Assumes nothing.
use Rattle.empty_sectors.proofs.Turning.{said}
use Rattle.empty_sectors.proofs.say.Goals as goal

pub returns : goal.returns
returns g c = said c.is_ok.result c.after_line.result c.requires c.after_line.ensures
