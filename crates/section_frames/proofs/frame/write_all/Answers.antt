-- `section_frames::frame::write_all` meets its contract. The invariant: what is left of the frames leads from here to where the whole Section
-- leads from the start (`FramesWritten`); a frame that is written is one of them less (`frames_more`).
-- Assumes nothing.
use mathlib.Core.Path.{sym, ◌∙◌}
use Rattle.section_frames.proofs.FrameLoop.{frames_none, frame-due, frames_more, frames_all}
use Rattle.section_frames.proofs.frame.write_all.Goals as goal

pub loop-f-init : goal.loop-f-init
loop-f-init c =
    let p = c.requires in
    frames_none _ _ _ _ p.0 p.3

pub write_frame-s-requires : goal.write_frame-s-requires
write_frame-s-requires c =
    let p = c.requires in
    frame-due c.loop-f.invariant c.loop-f-test.true p.1 p.2

pub loop-f-preserved : goal.loop-f-preserved
loop-f-preserved c =
    frames_more c.loop-f.invariant _ _ c.loop-f-test.true c.write_frame-s.ensures

pub shape_of-out : goal.shape_of-out
shape_of-out c = c.loop-f.invariant.rest.long ∙ sym c.requires.0

pub returns : goal.returns
returns c = frames_all c.loop-f.invariant c.loop-f-test.false
