-- `take_frame` meets its contract: a frame that is read gives what its words say (`taken_read`), one that is lost zeros and marks 4 (`taken_lost`).
-- Assumes nothing.
use Rattle.section_reader.proofs.FrameTaken.{taken_read, taken_lost}
use Rattle.section_reader.proofs.take_frame.Goals as goal

pub returns-in_default : goal.returns-in_default
returns-in_default c =
    taken_lost c.requires c.read_one.result c.read_one.ensures c.in_default.is _ _ c.lose_frame.ensures.0 c.lose_frame.ensures.1

pub returns : goal.returns
returns c =
    taken_read c.requires c.read_one.result c.read_one.ensures c.in-Some.is
