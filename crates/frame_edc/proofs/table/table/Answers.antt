-- `frame_edc::table::table` meets its contract: the 256 values are computed.
-- Assumes nothing.
use mathlib.Core.Path.{refl}
use Rattle.division.specs.Division.{brought, divided}
use Rattle.division.specs.Division.Register.{entry}
use Rattle.frame_edc.specs.FrameEdc.{divisor}
use Rattle.frame_edc.specs.Inner.Rows.{rows}
use Rattle.frame_edc.proofs.table.table.Goals as goal

pub returns : goal.returns
unfolding rows entry divided brought divisor
returns c = refl
