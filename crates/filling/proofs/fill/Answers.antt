-- `filling::fill` meets its contract: each refusal is of a word that can't be filled, and else `fill_word` decides (`fills_test`).
-- Assumes nothing.
use native.Mathlib.Omega.{arith}
use Rattle.filling.specs.Fill.WaysOut.{refuses_lengths, refuses_long, refuses_many, fills_test}
use Rattle.filling.proofs.fill.Goals as goal

pub returns-then-marks-word : goal.returns-then-marks-word
returns-then-marks-word c = refuses_lengths _ _ c.if-marks-word.true

pub returns-then-word-gt-LONGEST : goal.returns-then-word-gt-LONGEST
returns-then-word-gt-LONGEST c = refuses_long _ _ c.if-marks-word.false (omega (arith, c.if-word-gt-LONGEST.true))

pub returns-then-count_marked-gt-MOST : goal.returns-then-count_marked-gt-MOST
returns-then-count_marked-gt-MOST c =
    refuses_many _ _ c.if-marks-word.false (omega (arith, c.if-word-gt-LONGEST.false)) (omega (arith, c.if-count_marked-gt-MOST.true, c.count_marked.ensures))

pub returns : goal.returns
returns c =
    fills_test c.args.marks.now c.args.word.now
    (λ k. (c.slice_known-1.given k).fits)
    c.if-marks-word.false
    (omega (arith, c.if-word-gt-LONGEST.false))
    (omega (arith, c.if-count_marked-gt-MOST.false, c.count_marked.ensures))
    _ _
    c.fill_word.ensures.0
    c.fill_word.ensures.1
