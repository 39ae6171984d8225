-- `batch::repair_many` meets its contract: each way out is a law of `WaysOut`, or the batch is taken.
-- Assumes nothing.
use Rattle.batch.proofs.WaysOut.{ways}
use Rattle.batch.proofs.repair_many.Goals as goal

pub returns-in_default : goal.returns-in_default
returns-in_default c = search ways

pub returns-then-out-received : goal.returns-then-out-received
returns-then-out-received c = search ways

pub repair_each-requires : goal.repair_each-requires
repair_each-requires c = (c.sectors_in.ensures.so_many _ c.in-Some.is, c.if-out-received.false)

pub returns : goal.returns
returns c = search ways
