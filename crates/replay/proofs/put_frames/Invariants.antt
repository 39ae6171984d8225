-- `replay::put_frames` meets its contract: the loop's invariant is that the Channel bits before bit q are in the buffer as far as `end` (`Drawing`).
-- Assumes nothing.
use Prim.Native.Nat.{◌-◌}
use lib.ListN.{drop}
use Rattle.replaying.specs.Replay.{channel}
use Rattle.legal_runs.specs.EdgeBits.{runs}
use Rattle.replay.proofs.Drawing.{Drawing}
use Rattle.replay.proofs.put_frames.Given as goal

abbrev pub invariant-loop-q : goal.invariant-loop-q
invariant-loop-q l = Drawing (runs l.capture) (channel (drop l.k (runs l.capture))) l.k l.end l.out l.q l.j

abbrev pub decreases-loop-q : goal.decreases-loop-q
decreases-loop-q l = l.end - l.q
