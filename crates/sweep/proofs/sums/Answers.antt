-- `sweep::sums` meets its contract: it tests what `fitting` says and hands the work to the pass over the rows.
-- Assumes nothing.
use mathlib.Core.Path.{refl, sym}
use borrow.Author.Rules.{rules}
use Rattle.sweep.specs.Columns.Fit.{fit, unlike_lengths, no_columns}
use Rattle.sweep.proofs.sums.Goals as goal

pub returns-then-s0-s1 : goal.returns-then-s0-s1
returns-then-s0-s1 c =
    record { answer = sym (unlike_lengths c.args.s0.now c.args.s1.now c.if-s0-s1.true); first = refl; second = refl }

pub returns-then-s0-eq0 : goal.returns-then-s0-eq0
returns-then-s0-eq0 c =
    record { answer = sym (no_columns c.args.s0.now c.args.s1.now c.if-s0-s1.false c.if-s0-eq0.true); first = refl; second = refl }

pub returns : goal.returns
returns c =
    record {
      answer = sym (fit c.args.s0.now c.args.s1.now c.if-s0-s1.false (search rules));
      first = c.pass.ensures.0;
      second = c.pass.ensures.1;
    }
