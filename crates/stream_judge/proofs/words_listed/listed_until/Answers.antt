-- `words_listed::listed_until` meets its contract: the invariant is that the words of f frames are right (`FramesRight`), so none offends (`frames_clear`).
-- Assumes nothing.
use native.Mathlib.Omega.{arith}
use Rattle.stream_judge.proofs.Passes.{frames_none, frames_more, frames_clear}
use Rattle.stream_judge.proofs.words_listed.listed_until.Goals as goal

pub loop-f-init : goal.loop-f-init
loop-f-init c = (omega arith, frames_none c.args.channel.now)

pub overflow_mul-f-end : goal.overflow_mul-f-end
overflow_mul-f-end c = omega (arith, c.requires.2)

pub is_frame_right-right-requires : goal.is_frame_right-right-requires
is_frame_right-right-requires c = (c.all_words-table.ensures, c.guide-guide.ensures, omega (arith, c.requires.0, c.requires.2), omega (arith, c.requires.0, c.loop-f-test.true))

pub overflow_mul-result : goal.overflow_mul-result
overflow_mul-result c = omega (arith, c.requires.2, c.loop-f.invariant.0)

pub returns-then-not-right : goal.returns-then-not-right
returns-then-not-right c = (omega (arith, c.loop-f.invariant.0), frames_clear c.args.channel.now _ c.loop-f.invariant.1)

pub loop-f-preserved : goal.loop-f-preserved
loop-f-preserved c = (
  omega (arith, c.loop-f-test.true),
  frames_more c.args.channel.now _ c.loop-f.invariant.1 (c.is_frame_right-right.ensures (c.if-not-right.false)),
)

pub overflow_mul-result-2 : goal.overflow_mul-result-2
overflow_mul-result-2 c = omega (arith, c.requires.2)

pub returns : goal.returns
returns c = (omega arith, λ q h. frames_clear c.args.channel.now _ c.loop-f.invariant.1 q (omega (arith, h, c.loop-f-test.false)))
