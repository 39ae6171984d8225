-- `read_frames` meets its contract. The invariant: the frames before f are in both buffers (`FramesRead`); one that is taken fills its places
-- (`frames_more`).
-- Assumes nothing.
use mathlib.Core.Path.{sym, ◌∙◌}
use Rattle.section_reader.proofs.FramesRead.{frames_none, frames_long, frames_room, frames_more, frames_all}
use Rattle.section_reader.proofs.read_frames.Goals as goal

pub loop-f-init : goal.loop-f-init
loop-f-init c =
    let p = c.requires in
    frames_none _ _ _ p.1 p.2

pub take_frame-requires : goal.take_frame-requires
take_frame-requires c =
    let room = frames_room c.loop-f.invariant c.loop-f-test.true in
    record {
      long = c.requires.0;
      table_is = c.all_words-table.ensures;
      guides = c.guide-guide.ensures;
      within = c.loop-f-test.true;
      room_bytes = room.0;
      room_marks = room.1;
    }

pub loop-f-preserved : goal.loop-f-preserved
loop-f-preserved c =
    frames_more c.loop-f.invariant c.loop-f-test.true _ _ c.take_frame.ensures

pub shape_of-bytes : goal.shape_of-bytes
shape_of-bytes c = (frames_long c.loop-f.invariant).0 ∙ sym c.requires.1

pub shape_of-marks : goal.shape_of-marks
shape_of-marks c = (frames_long c.loop-f.invariant).1 ∙ sym c.requires.2

pub returns : goal.returns
returns c = frames_all c.loop-f.invariant c.loop-f-test.false
