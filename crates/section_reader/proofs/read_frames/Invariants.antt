-- `read_frames` meets its contract. The invariant: the frames before f are in both buffers (`FramesRead`); one that is taken fills its places
-- (`frames_more`).
-- Assumes nothing.
use Rattle.section_reader.proofs.FramesRead.{FramesRead}
use Rattle.section_reader.proofs.read_frames.Given as goal

abbrev pub invariant-loop-f : goal.invariant-loop-f
invariant-loop-f l = FramesRead l.channel l.initial.bytes l.initial.marks l.f l.bytes l.marks
