-- `restoring::put_counts` meets its contract: the loop's invariant is `Reading`; its ways out are `on_malformed`, `on_many` and `on_end`.
-- Assumes nothing.
use Rattle.std.proofs.Common.{◌-◌, length}
use Rattle.restoring.proofs.Reading.{Reading}
use Rattle.restoring.proofs.put_counts.Given as goal

abbrev pub invariant-loop-at : goal.invariant-loop-at
invariant-loop-at l = Reading l.list l.capture l.last l.used l.at

abbrev pub decreases-loop-at : goal.decreases-loop-at
decreases-loop-at l = length l.list - l.at
