-- `faults::fault_at` meets its contract: the test that it takes is the definition's.
-- Assumes nothing.
use native.Mathlib.Omega.{arith}
use borrow.Author.Tests.{lt-ltb, le-ltb}
use Rattle.faults.proofs.fault_at.Goals as goal

pub overflow_sub-result : goal.overflow_sub-result
overflow_sub-result c = omega arith

pub overflow_sub-result-then-m-k : goal.overflow_sub-result-then-m-k
overflow_sub-result-then-m-k c = omega arith

pub returns-then-m-k : goal.returns-then-m-k
returns-then-m-k c = rw (lt-ltb c.args.m c.args.k c.if-m-k.true)

pub returns-else-m-k : goal.returns-else-m-k
returns-else-m-k c = rw (le-ltb c.args.m c.args.k c.if-m-k.false)
