-- `ring_places::onward` meets its contract: the places that have gone on, and those that are left.
-- Assumes nothing.
use mathlib.Core.Path.{sym, ◌∙◌}
use native.Mathlib.Omega.{arith}
use lib.ListN.{length-set}
use Rattle.rings.specs.Rings.{onward}
use Rattle.rings.specs.Rings.Moving.{onward_more, onward_end}
use Rattle.ring_places.proofs.onward.Goals as goal

pub loop-k-preserved : goal.loop-k-preserved
loop-k-preserved c =
    let l = c.loop-k in
    let a = c.args in (
      length-set l.places l.k c.following.result ∙ l.invariant.0,
      onward_more a.waits.now l.places l.k (omega arith) (omega arith) (onward a.waits.now a.places.now) c.following.result c.following.ensures l.invariant.1,
    )

pub shape_of-places : goal.shape_of-places
shape_of-places c = c.loop-k.invariant.0

pub returns : goal.returns
returns c =
    let l = c.loop-k in
    let a = c.args in
    sym (l.invariant.1 ∙ onward_end a.waits.now l.places l.k (omega arith))
