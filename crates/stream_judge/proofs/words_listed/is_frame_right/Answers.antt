-- `words_listed::is_frame_right` meets its contract: the invariant is that the first i words of the frame are right (`words_more`).
-- Assumes nothing.
use mathlib.Core.Path.{◌∙◌}
use mathlib.Core.Bool.{false≢true}
use native.Mathlib.Omega.{arith}
use Rattle.judged_bits.specs.Bytes.{field_judged}
use Rattle.offence_tests.specs.Known.Listed.{right-listed}
use Rattle.stream_judge.proofs.Passes.{words_more}
use Rattle.stream_judge.proofs.words_listed.is_frame_right.Goals as goal

pub loop-i-init : goal.loop-i-init
loop-i-init c = (omega arith, λ i h. absurd (omega arith))

pub overflow_mul-f : goal.overflow_mul-f
overflow_mul-f c = omega (arith, c.requires.2, c.requires.3)

pub overflow_add-f : goal.overflow_add-f
overflow_add-f c = omega (arith, c.requires.2, c.requires.3)

pub overflow_mul-i : goal.overflow_mul-i
overflow_mul-i c = omega (arith, c.loop-i-test.true)

pub overflow_add-f-in-loop-i : goal.overflow_add-f-in-loop-i
overflow_add-f-in-loop-i c = omega (arith, c.requires.2, c.requires.3, c.loop-i-test.true)

pub overflow_cast-w : goal.overflow_cast-w
overflow_cast-w c = omega (arith, c.field-w.ensures.1)

pub is_listed-known-requires : goal.is_listed-known-requires
is_listed-known-requires c = (c.requires.0, c.requires.1)

pub returns-then-not-right : goal.returns-then-not-right
returns-then-not-right c = λ e. absurd (false≢true e)

pub loop-i-preserved : goal.loop-i-preserved
loop-i-preserved c =
    let h = c.loop-i-test.true in
    let xs = c.args.channel.now in (
      omega (arith, h),
      words_more xs c.args.f _ _ _ c.loop-i.invariant.1
          (c.field-w.ensures.0 ∙ field_judged xs _ 14 (omega (arith, c.requires.3, h)) (omega arith))
          (c.is_right_word-right.ensures ∙ right-listed _ _ _ _ c.is_listed-known.ensures) (c.if-not-right.false),
    )

pub returns : goal.returns
returns c = λ e i h. c.loop-i.invariant.1 i (omega (arith, c.loop-i-test.false))
