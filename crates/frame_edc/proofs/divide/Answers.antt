-- `frame_edc::divide` meets its contract: the register holds the remainder of the bytes passed (`Passed`).
-- Assumes nothing.
use Rattle.frame_edc.proofs.Passed.{passed_none, passed_byte, passed_all}
use Rattle.frame_edc.proofs.divide.Goals as goal

pub loop-b-init : goal.loop-b-init
loop-b-init c = passed_none _

pub take_byte-r-requires : goal.take_byte-r-requires
take_byte-r-requires c = c.requires

pub loop-b-preserved : goal.loop-b-preserved
loop-b-preserved c =
    passed_byte c.loop-b.invariant _ c.loop-b-test.true c.take_byte-r.ensures

pub returns : goal.returns
returns c = passed_all c.loop-b.invariant c.loop-b-test.false
