-- `section_frames::frame::write_words` meets its contract. The invariant: the bits of the words before place i are written (`WordsWritten`).
-- Assumes nothing.
use mathlib.Core.Path.{◌≡◌}
use native.Mathlib.Omega.{arith}
use lib.ListN.{length}
use Rattle.section_frames.proofs.WordLoop.{written_none, written_more, written_all}
use borrow.Author.Rules.{rules}
use Rattle.section_frames.proofs.frame.write_words.Goals as goal

pub loop-word-init : goal.loop-word-init
loop-word-init c = written_none _ _ _ (let long : length c.args.words ≡ 33 = search rules in long) c.requires.held

pub put-p-requires : goal.put-p-requires
put-p-requires c =
    let l = c.loop-word in
    let p = c.requires in
    record {
      held = l.invariant.held;
      small = p.small l.word-index;
      short = omega arith;
      room = omega (arith, l.invariant.place, l.invariant.long, p.room, c.loop-word-test.true);
    }

pub loop-word-preserved : goal.loop-word-preserved
loop-word-preserved c =
    written_more c.args.out.now c.args.from c.args.words (let long : length c.args.words ≡ 33 = search rules in long) _ _ _ _ _ c.loop-word.invariant c.loop-word-test.true c.put-p.ensures

pub shape_of-out : goal.shape_of-out
shape_of-out c = c.loop-word.invariant.long

pub returns : goal.returns
returns c =
    written_all c.args.out.now c.args.from c.args.words (let long : length c.args.words ≡ 33 = search rules in long) _ _ _ c.loop-word.invariant c.loop-word-test.false
