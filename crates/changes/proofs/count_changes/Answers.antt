-- `changes::count_changes` meets its contract: the loop has counted the places that it passed (`Counting`).
-- Assumes nothing.
use Rattle.std.proofs.Common.{sym, ◌∙◌, eqb, inl, inr, arith, length, get_or}
use mathlib.Core.Logic.{⊎_elim}
use Rattle.outcome.specs.First.Found.{lt-or-le}
use Rattle.codeword.specs.Code.Changes.{unlike_le}
use Rattle.changes.proofs.Counting.{unlike_counts, changes-none_yet, changes_more, changes_all}
use Rattle.changes.proofs.count_changes.Goals as goal

pub loop-i-init : goal.loop-i-init
loop-i-init c = (omega arith, sym (changes-none_yet c.args.a.now c.args.b.now))

pub loop-i-preserved : goal.loop-i-preserved
loop-i-preserved c =
    let i = c.loop-i.i in
    let a = c.args.a.now in
    let b = c.args.b.now in
    let one = c.from-count.ensures ∙ unlike_counts (eqb (get_or a i 0) (get_or b i 0)) in (
      omega (arith, one, unlike_le (get_or a i 0) (get_or b i 0)),
      changes_more a b i (omega (arith, c.min-i-end.ensures)) (omega (arith, c.min-i-end.ensures)) c.loop-i.invariant.1 one,
    )

pub returns : goal.returns
returns c =
    let a = c.args.a.now in
    let b = c.args.b.now in
    c.loop-i.invariant.1
    ∙ changes_all a b c.loop-i.i
    (⊎_elim (λ l. inl (omega (arith, c.min-i-end.ensures))) (λ l. inr (omega (arith, c.min-i-end.ensures))) (lt-or-le (length a) (length b)))
