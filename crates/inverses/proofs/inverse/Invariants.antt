-- `inverses::inverse` meets its contract. The loop's invariant: after i turns r is a to the power of i ones in binary (`Climb`).
-- Assumes nothing.
use Rattle.inverses.proofs.Climb.{Climbing}
use Rattle.inverses.proofs.inverse.Given as goal

abbrev pub invariant-loop : goal.invariant-loop
invariant-loop l = Climbing l.a l.counter l.r
