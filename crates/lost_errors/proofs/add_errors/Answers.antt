-- `lost_errors::add_errors` meets its contract: the errors of the first i places are added (`Adding`).
-- Assumes nothing.
use Rattle.lost_errors.proofs.Adding.{adding_none, adding_long, adding_inside, adding_more, adding_all, adding_other}
use Rattle.lost_errors.proofs.add_errors.Goals as goal

pub returns-then-marks-word : goal.returns-then-marks-word
returns-then-marks-word c = let a = c.args in adding_other a.marks.now a.s a.word.now c.if-marks-word.true

pub loop-i-init : goal.loop-i-init
loop-i-init c = adding_none _ _ _ c.if-marks-word.false

pub bounds-word-i : goal.bounds-word-i
bounds-word-i c = adding_inside c.loop-i.invariant c.loop-i-test.true

pub error_of-requires : goal.error_of-requires
error_of-requires c = c.loop-i-test.true

pub bounds-word-i-in-loop-i : goal.bounds-word-i-in-loop-i
bounds-word-i-in-loop-i c = adding_inside c.loop-i.invariant c.loop-i-test.true

pub loop-i-preserved : goal.loop-i-preserved
loop-i-preserved c = adding_more c.loop-i.invariant c.loop-i-test.true c.error_of.ensures

pub shape_of-word : goal.shape_of-word
shape_of-word c = adding_long c.loop-i.invariant

pub returns : goal.returns
returns c = adding_all c.loop-i.invariant c.loop-i-test.false
