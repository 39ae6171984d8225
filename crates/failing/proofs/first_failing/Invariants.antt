-- `failing::first_failing` meets its contract. The invariant: no codeword before n fails.
-- Assumes nothing.
use Rattle.failing.specs.Failing.{failing}
use Rattle.failing.proofs.Search.{NoneBelow}
use Rattle.failing.proofs.first_failing.Given as goal

abbrev pub invariant-loop-n : goal.invariant-loop-n
invariant-loop-n l = NoneBelow (failing l.parity l.s) l.n
