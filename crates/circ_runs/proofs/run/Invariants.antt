-- `run` meets its contract: after each turn the run is what is left so far and behind it the rest (`Running`).
-- Assumes nothing.
use Prim.Native.Nat.{◌*◌}
use Rattle.circ_runs.proofs.Running.{Running}
use Rattle.circ_runs.proofs.run.Given as goal

abbrev pub invariant-loop-call : goal.invariant-loop-call
invariant-loop-call g l =
    Running g.C.Coder.does (g.C.Coder.rings l.fn.coder) l.frames l.initial.steps l.initial.out (g.C.Coder.rings l.coder) (2 * l.call) l.from l.to l.steps l.out
