-- `words_listed::is_frame_right` meets its contract: the invariant is that the first i words of the frame are right (`words_more`).
-- Assumes nothing.
use Prim.Native.Nat.{◌≤◌}
use Rattle.stream_judge.specs.Inner.{WordsRight}
use Rattle.stream_judge.proofs.words_listed.is_frame_right.Given as goal

abbrev pub invariant-loop-i : goal.invariant-loop-i
invariant-loop-i l = (l.i ≤ 33) × WordsRight l.channel l.f l.i
