-- `words_listed::listed_until` meets its contract: the invariant is that the words of f frames are right (`FramesRight`), so none offends (`frames_clear`).
-- Assumes nothing.
use Prim.Native.Nat.{◌*◌, ◌≤◌}
use Rattle.stream_judge.proofs.Passes.{FramesRight}
use Rattle.stream_judge.proofs.words_listed.listed_until.Given as goal

abbrev pub invariant-loop-f : goal.invariant-loop-f
invariant-loop-f l = (l.f ≤ 98 * l.n) × FramesRight l.channel l.f
