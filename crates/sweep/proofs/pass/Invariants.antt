-- `sweep::pass` meets its contract. The loop's invariant: s0 and s1 are the sums of the columns of the rows passed (`Passing`).
-- Assumes nothing.
use mathlib.Core.Path.{◌≡◌}
use lib.ListN.{length}
use Rattle.std.specs.Slice.Iter.{chunks_exact_rest, chunks_exact_size}
use Rattle.sweep.proofs.Sweeping.{Passing}
use Rattle.sweep.proofs.pass.Given as goal

abbrev pub invariant-loop-row : goal.invariant-loop-row
invariant-loop-row l =
    Passing l.rows (length l.initial.s0) (chunks_exact_rest l.row-iterator) l.s0 l.s1 × (chunks_exact_size l.row-iterator ≡ length l.initial.s0)
