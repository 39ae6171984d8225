-- `gathering::gather_row` meets its contract. The loop's invariant: the bytes of d codewords of each half are there (`Gathering`).
-- Assumes nothing.
use native.Mathlib.Omega.{arith}
use lib.ListN.{length-set}
use Rattle.gathering.proofs.Gathering.{gathering_none, gathering_more, gathering_long, gathering_all}
use Rattle.gathering.proofs.gather_row.Goals as goal

pub loop-d-init : goal.loop-d-init
loop-d-init c = gathering_none _ _ _ c.requires.2

pub bounds-row-d : goal.bounds-row-d
bounds-row-d c = omega (arith, gathering_long c.loop-d.invariant)

pub bounds-row-d-in-loop-d : goal.bounds-row-d-in-loop-d
bounds-row-d-in-loop-d c = simp length-set (omega (arith, gathering_long c.loop-d.invariant))

pub loop-d-preserved : goal.loop-d-preserved
loop-d-preserved c = gathering_more c.loop-d.invariant c.next_word-word.result c.loop-d-test.true c.next_word-word.ensures

pub shape_of-row : goal.shape_of-row
shape_of-row c = gathering_long c.loop-d.invariant

pub returns : goal.returns
returns c = gathering_all c.loop-d.invariant c.loop-d-test.false
