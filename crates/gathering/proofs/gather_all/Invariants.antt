-- `gathering::gather_all` meets its contract. The loop's invariant: the first m rows are there (`Filling`).
-- Assumes nothing.
use Prim.Native.Nat.{◌*◌}
use Rattle.outcome.specs.Buffer.{Filling}
use Rattle.gathering.specs.Rows.{q_rows}
use Rattle.gathering.proofs.gather_all.Given as goal

abbrev pub invariant-loop-m : goal.invariant-loop-m
invariant-loop-m l = Filling l.initial.rows (q_rows l.s) (52 * l.m) l.rows
