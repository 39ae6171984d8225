-- `circ_words::treat` meets its contract: a law for each way, by the number of marks (`Treating`).
-- Assumes nothing.
use mathlib.Core.Path.{sym, ◌∙◌}
use mathlib.Core.Bool.{true, false}
use native.Mathlib.Omega.{arith}
use Rattle.circ.proofs.Codes.Treated.{positive}
use Rattle.circ_words.proofs.Treating.{by_nearest, too_many, by_filling}
use Rattle.circ_words.proofs.treat.Goals as goal

pub returns-then-n-eq0 : goal.returns-then-n-eq0
returns-then-n-eq0 c =
    by_nearest _ _ _ _ _ (sym c.count_marked-n.ensures ∙ c.if-n-eq0.true) c.mend.ensures

pub returns-then-most-n : goal.returns-then-most-n
returns-then-most-n c = too_many _ _ _ (omega (arith, c.if-most-n.true, c.count_marked-n.ensures))

pub returns-then-fill : goal.returns-then-fill
returns-then-fill c =
    by_filling c.args.most c.args.marks.now c.args.word.now _ _ true
    (positive c.args.marks.now (λ e. c.if-n-eq0.false (c.count_marked-n.ensures ∙ e)))
    (omega (arith, c.if-most-n.false, c.count_marked-n.ensures))
    c.fill.ensures
    c.if-fill.true

pub returns : goal.returns
returns c =
    by_filling c.args.most c.args.marks.now c.args.word.now _ _ false
    (positive c.args.marks.now (λ e. c.if-n-eq0.false (c.count_marked-n.ensures ∙ e)))
    (omega (arith, c.if-most-n.false, c.count_marked-n.ensures))
    c.fill.ensures
    c.if-fill.false
