-- `worked_out` meets its contract: after n turns the first n + 15 bytes are those of the sequence (`Working`).
-- Assumes nothing.
use Rattle.sequence.proofs.Working.{Worked}
use Rattle.sequence.proofs.worked_out.Given as goal

abbrev pub invariant-loop-n : goal.invariant-loop-n
invariant-loop-n l = Worked l.n l.bytes
