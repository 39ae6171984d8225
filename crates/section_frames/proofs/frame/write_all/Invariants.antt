-- `section_frames::frame::write_all` meets its contract. The invariant: what is left of the frames leads from here to where the whole Section
-- leads from the start (`FramesWritten`); a frame that is written is one of them less (`frames_more`).
-- Assumes nothing.
use Rattle.section_frames.proofs.FrameLoop.{FramesWritten}
use Rattle.section_frames.proofs.frame.write_all.Given as goal

abbrev pub invariant-loop-f : goal.invariant-loop-f
invariant-loop-f l = FramesWritten l.initial.s.tally l.frames l.control l.out l.s l.f
