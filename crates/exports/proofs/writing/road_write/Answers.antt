-- `writing::road_write` meets its contract: it is the promise of `write` at the time made of the three bytes (`written_at`).
-- Assumes nothing.
use Rattle.exports.proofs.Times.{written_at}
use Rattle.exports.proofs.writing.road_write.Goals as goal

pub returns : goal.returns
returns c =
    written_at c.write.result c.new.ensures c.write.ensures c.number.ensures
