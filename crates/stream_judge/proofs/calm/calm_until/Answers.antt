-- `calm::calm_until` meets its contract: the invariant is that t triples are clear, with the 40 bits that the next needs (`Calming`).
-- Assumes nothing.
use mathlib.Core.Path.{sym, ◌∙◌}
use native.Mathlib.Omega.{arith}
use Rattle.stream_windows.specs.Calm.Until.{calming_start, calming_more}
use Rattle.stream_judge.proofs.calm.calm_until.Goals as goal

pub triple-held-requires : goal.triple-held-requires
triple-held-requires c = (omega (arith, c.requires.0, c.requires.2), omega arith, omega (arith, c.requires.0))

pub loop-t-init : goal.loop-t-init
loop-t-init c = calming_start c.args.channel.now c.args.n c.requires.0 _ c.triple-held.ensures.0

pub overflow_mul-t-end : goal.overflow_mul-t-end
overflow_mul-t-end c = omega (arith, c.requires.2)

pub overflow_add-t : goal.overflow_add-t
overflow_add-t c = omega (arith, c.requires.2, c.loop-t-test.true)

pub triple-next-requires : goal.triple-next-requires
triple-next-requires c = (omega (arith, c.requires.0, c.requires.2), omega (arith, c.requires.0, c.loop-t-test.true), omega (arith, c.requires.0))

pub overflow_mul-w : goal.overflow_mul-w
overflow_mul-w c = omega (arith, c.loop-t.invariant.small)

pub overflow_add-w : goal.overflow_add-w
overflow_add-w c = omega (arith, c.loop-t.invariant.small, c.triple-next.ensures.1)

pub overflow_mul-result : goal.overflow_mul-result
overflow_mul-result c = omega (arith, c.requires.2, c.loop-t.invariant.upto)

pub returns-then-not-calm : goal.returns-then-not-calm
returns-then-not-calm c = (omega (arith, c.loop-t.invariant.upto), c.loop-t.invariant.clear)

pub loop-t-preserved : goal.loop-t-preserved
loop-t-preserved c = calming_more c.args.channel.now c.args.n c.requires.0 _ _ c.loop-t.invariant c.loop-t-test.true _ c.triple-next.ensures.0
    (sym c.is_triple_calm-calm.ensures ∙ c.if-not-calm.false)

pub overflow_mul-result-2 : goal.overflow_mul-result-2
overflow_mul-result-2 c = omega (arith, c.requires.2)

pub returns : goal.returns
returns c = (omega arith, λ q h. c.loop-t.invariant.clear q (omega (arith, h, c.loop-t-test.false)))
