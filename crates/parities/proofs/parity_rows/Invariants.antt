-- `parities::parity_rows` meets its contract. The loop's invariant: the columns below k have their parity, the others their sums (`Parting`).
-- Assumes nothing.
use lib.ListN.{length}
use Rattle.parities.proofs.Parting.{Parting}
use Rattle.parities.proofs.parity_rows.Given as goal

abbrev pub invariant-loop-k : goal.invariant-loop-k
invariant-loop-k l = Parting (length l.initial.p0) l.rows l.k l.p0 l.p1
