-- `section_frames::frame::write_frame` meets its contract: a Sync Header and what is chosen for the frame make the frame (`frame_done`).
-- Assumes nothing.
use mathlib.Core.Path.{◌≡◌}
use native.Mathlib.Omega.{arith}
use lib.ListN.{length}
use Rattle.section_frames.proofs.FrameLoop.{frame-words-small, frame_tail_small, frame_done}
use borrow.Author.Rules.{rules}
use Rattle.section_frames.proofs.frame.write_frame.Goals as goal

pub write_words-worded-requires : goal.write_words-worded-requires
write_words-worded-requires c =
    record {
      held = c.put-headed.ensures.held;
      small = frame-words-small c.args.out.now c.args.w c.args.frames.now c.args.control.now c.args.f c.symbols_of-symbols.result c.choose_frame-chosen.result c.choose_frame-chosen.ensures;
      room = omega (arith, c.put-headed.ensures.place, c.put-headed.ensures.long, c.requires.rest.long, c.requires.room);
    }

pub put-tailed-requires : goal.put-tailed-requires
put-tailed-requires c =
    record {
      held = c.write_words-worded.ensures.held;
      small = frame_tail_small c.args.out.now c.args.w c.args.frames.now c.args.control.now c.args.f c.symbols_of-symbols.result c.choose_frame-chosen.result c.choose_frame-chosen.ensures;
      short = omega arith;
      room = omega (arith, c.write_words-worded.ensures.place, c.write_words-worded.ensures.long, c.put-headed.ensures.place, c.put-headed.ensures.long, c.requires.rest.long, c.requires.room);
    }

pub returns : goal.returns
returns c =
    frame_done c.args.out.now c.args.w c.args.frames.now c.args.control.now c.args.f c.symbols_of-symbols.result c.choose_frame-chosen.result c.choose_frame-chosen.ensures c.requires (let long : length c.symbols_of-symbols.result ≡ 33 = search rules in long) c.symbols_of-symbols.ensures
    _ _ _ _ _ _ c.put-headed.ensures c.write_words-worded.ensures c.put-tailed.ensures
