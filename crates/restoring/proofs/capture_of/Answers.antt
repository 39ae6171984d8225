-- `restoring::capture_of` meets its contract: each way out is a law of `WaysOut`.
-- Assumes nothing.
use Rattle.restoring.proofs.WaysOut.{on_long, on_room, is_ready, on_none, on_done}
use Rattle.restoring.proofs.capture_of.Goals as goal

pub returns-then-list-gt98304 : goal.returns-then-list-gt98304
returns-then-list-gt98304 c = search on_long

pub returns-then-capture-ne65536 : goal.returns-then-capture-ne65536
returns-then-capture-ne65536 c = search on_room

pub put_counts-requires : goal.put_counts-requires
put_counts-requires c = search is_ready

pub returns-in_default : goal.returns-in_default
returns-in_default c = search on_none

pub returns : goal.returns
returns c = search on_done
