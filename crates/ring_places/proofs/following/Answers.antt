-- `ring_places::following` meets its contract: the next place, or the first.
-- Assumes nothing.
use native.Mathlib.Omega.{arith}
use Rattle.ring_places.proofs.Pairs.{next_place, first_place}
use Rattle.ring_places.proofs.following.Goals as goal

pub returns-in-Some : goal.returns-in-Some
returns-in-Some c = next_place c.args.d c.args.p c.in-Some.q (omega (arith, c.in-Some.ensures)) c.if-q-d.true

pub returns-in_default : goal.returns-in_default
returns-in_default c = first_place c.args.d c.args.p (omega (arith, c.in-Some.ensures, c.if-q-d.false))

pub returns-in_default-2 : goal.returns-in_default-2
returns-in_default-2 c = first_place c.args.d c.args.p (omega (arith, c.in_default.ensures, c.ranges.d.fits))
