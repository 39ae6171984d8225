-- `calm::calm_until` meets its contract: the invariant is that t triples are clear, with the 40 bits that the next needs (`Calming`).
-- Assumes nothing.
use Rattle.stream_windows.specs.Calm.Until.{Calming}
use Rattle.stream_judge.proofs.calm.calm_until.Given as goal

abbrev pub invariant-loop-t : goal.invariant-loop-t
invariant-loop-t l = Calming l.channel l.n l.t l.held
