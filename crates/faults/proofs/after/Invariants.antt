-- `faults::after` meets its contract. No place below m fits, and the sums are compared with those that are expected at m; the inner loop takes each of
-- these on by its own power of α (`expected_more`).
-- Assumes nothing.
use mathlib.Core.Path.{◌≡◌}
use Prim.Native.Nat.{◌+◌}
use Rattle.outcome.specs.Buffer.{Filling}
use Rattle.codeword.specs.Fault.{fits}
use Rattle.faults.proofs.Search.{Passed, expected}
use Rattle.faults.proofs.after.Given as goal

abbrev pub invariant-loop-m : goal.invariant-loop-m
invariant-loop-m g l = Passed (fits l.sums) l.k l.m × (l.expected ≡ expected l.sums l.m)

abbrev pub invariant-loop-j : goal.invariant-loop-j
invariant-loop-j g l = Filling l.initial.sum-items (expected l.sums (l.m + 1)) l.j l.sum-items
