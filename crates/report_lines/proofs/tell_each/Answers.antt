-- `report_lines::tell_each` meets its contract (`Telling`).
-- Assumes nothing.
use Rattle.report_lines.proofs.Telling.{untaken, room_for, no_room, too_many, tells_all, telling_none, telling_all, due, telling_more, telling_ends}
use Rattle.report_lines.proofs.tell_each.Goals as goal

pub returns-in_default : goal.returns-in_default
returns-in_default g c =
    untaken c.args.counts c.args.received.now c.args.out.now c.repair_many-batch.result.answer c.in_default.not-Ok c.repair_many-batch.ensures

pub returns-then-sectors_ahead-n : goal.returns-then-sectors_ahead-n
returns-then-sectors_ahead-n g c =
    too_many c.repair_many-batch.ensures c.in-Ok.is (no_room c.sectors_ahead.ensures c.if-sectors_ahead-n.true)

pub loop-i-init : goal.loop-i-init
loop-i-init g c = telling_none _ _ _

pub tell-progress-requires : goal.tell-progress-requires
tell-progress-requires g c =
    due (room_for c.sectors_ahead.ensures c.if-sectors_ahead-n.false) c.repair_many-batch.ensures c.in-Ok.is c.loop-i.invariant
    c.loop-i-test.true _ c.fate_of-fate.result c.fate_of-fate.ensures

pub returns-in_default-stand : goal.returns-in_default-stand
returns-in_default-stand g c =
    let can = room_for c.sectors_ahead.ensures c.if-sectors_ahead-n.false in
    let b = c.repair_many-batch.ensures in
    tells_all b c.in-Ok.is can
    (telling_ends can b c.in-Ok.is c.loop-i.invariant c.loop-i-test.true _ c.fate_of-fate.result c.fate_of-fate.ensures
    c.tell-progress.result c.tell-progress.ensures c.in_default-stand.not-Going)

pub loop-i-preserved : goal.loop-i-preserved
loop-i-preserved g c =
    telling_more (room_for c.sectors_ahead.ensures c.if-sectors_ahead-n.false) c.repair_many-batch.ensures c.in-Ok.is
    c.loop-i.invariant c.loop-i-test.true _ c.fate_of-fate.result c.fate_of-fate.ensures c.tell-progress.result
    c.tell-progress.ensures c.in-Going.is

pub returns : goal.returns
returns g c =
    let can = room_for c.sectors_ahead.ensures c.if-sectors_ahead-n.false in
    let b = c.repair_many-batch.ensures in
    tells_all b c.in-Ok.is can (telling_all can b c.in-Ok.is c.loop-i.invariant c.loop-i-test.false)
