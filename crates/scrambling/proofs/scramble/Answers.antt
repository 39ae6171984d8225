-- `scramble` meets its contract: each way out is a law of `Entry`, whose premises are what the tests and `put_scrambled` said.
-- Assumes nothing.
use Rattle.entry.specs.Entry.WaysOut.{on_incoming, on_outgoing, on_done}
use Rattle.scrambling.specs.Scramble.{scrambled}
use Rattle.scrambling.proofs.scramble.Goals as goal

pub returns-then-sector-ne-SECTOR : goal.returns-then-sector-ne-SECTOR
returns-then-sector-ne-SECTOR c = on_incoming scrambled _ _ _ c.if-sector-ne-SECTOR.true c.wipe.ensures

pub returns-then-out-ne-SECTOR : goal.returns-then-out-ne-SECTOR
returns-then-out-ne-SECTOR c = on_outgoing scrambled _ _ c.if-sector-ne-SECTOR.false c.if-out-ne-SECTOR.true

pub returns : goal.returns
returns c =
    on_done scrambled _ _ _ c.if-sector-ne-SECTOR.false c.if-out-ne-SECTOR.false c.put_scrambled.ensures
