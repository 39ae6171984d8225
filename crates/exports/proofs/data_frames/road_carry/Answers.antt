-- `data_frames::road_carry` meets its contract: it is the promise of `carry` at the time made of the three bytes (`carried_at`).
-- Assumes nothing.
use Rattle.exports.proofs.Times.{carried_at}
use Rattle.exports.proofs.data_frames.road_carry.Goals as goal

pub returns : goal.returns
returns c = carried_at c.new.ensures c.carry.ensures
