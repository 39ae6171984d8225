-- `salvage::work` meets its contract: each way out is a law of `WaysOut`.
-- Assumes nothing.
use Rattle.salvage.proofs.WaysOut.{worked_none, worked_some}
use Rattle.salvage.proofs.work.Goals as goal

pub returns-in_default : goal.returns-in_default
returns-in_default c =
    worked_none c.args.received.now c.copy_from_slice.new.self _ _ c.search-found.new.t c.args.passes c.search-found.result c.requires.0
    c.copy_from_slice.ensures.after c.blank-t.ensures c.search-found.ensures _ _ c.in_default.is

pub returns : goal.returns
returns c =
    worked_some c.args.received.now c.copy_from_slice.new.self _ _ c.search-found.new.t c.args.passes c.search-found.result c.requires.0
    c.copy_from_slice.ensures.after c.blank-t.ensures c.search-found.ensures _ c.list_changes-count.result c.in-Some.is c.requires.1
    c.copy_from_slice-2.ensures.after c.list_changes-count.ensures
