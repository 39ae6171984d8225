-- `taken::window_at` meets its contract: the invariant is that v has the first k bits of the window (`Growing`).
-- Assumes nothing.
use native.Mathlib.Omega.{arith}
use Rattle.stream_judge.proofs.Passes.{growing_start, growing_small, growing_more, growing_done}
use Rattle.stream_judge.proofs.taken.window_at.Goals as goal

pub loop-k-init : goal.loop-k-init
loop-k-init c = growing_start c.args.channel.now c.args.p c.requires.1

pub overflow_add-p : goal.overflow_add-p
overflow_add-p c = omega (arith, c.requires.0, c.requires.1)

pub overflow_add-p-in-loop-k : goal.overflow_add-p-in-loop-k
overflow_add-p-in-loop-k c = omega (arith, c.requires.0, c.requires.1, c.loop-k-test.true)

pub overflow_mul-v : goal.overflow_mul-v
overflow_mul-v c = omega (arith, growing_small c.args.channel.now c.args.p c.requires.1 _ _ c.loop-k.invariant c.loop-k-test.true)

pub overflow_add-v : goal.overflow_add-v
overflow_add-v c = omega (arith, growing_small c.args.channel.now c.args.p c.requires.1 _ _ c.loop-k.invariant c.loop-k-test.true, c.bit_at-b.ensures.1)

pub loop-k-preserved : goal.loop-k-preserved
loop-k-preserved c = growing_more c.args.channel.now c.args.p c.requires.1 _ _ _ c.loop-k.invariant c.loop-k-test.true c.bit_at-b.ensures.0

pub returns : goal.returns
returns c = growing_done c.args.channel.now c.args.p c.requires.1 _ _ c.loop-k.invariant c.loop-k-test.false
