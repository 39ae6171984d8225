-- `control_reader::q_byte` meets its contract: after j turns the number is that of j bits (`Gathering`).
-- Assumes nothing.
use Rattle.control_reader.proofs.Gathering.{Gathered}
use Rattle.control_reader.proofs.q_byte.Given as goal

abbrev pub invariant-loop-j : goal.invariant-loop-j
invariant-loop-j l = Gathered l.bytes l.at l.n l.j
