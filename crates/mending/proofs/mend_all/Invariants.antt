-- `mending::mend_all` meets its contract. The loop's invariant: the codewords in the columns below k are handed on, the others are as
-- they were (`Passing`).
-- Assumes nothing.
use Rattle.mending.proofs.Passing.{Passing}
use Rattle.mending.proofs.mend_all.Given as goal

abbrev pub invariant-loop-k : goal.invariant-loop-k
invariant-loop-k l = Passing l.parity l.initial.s l.k l.near l.s
