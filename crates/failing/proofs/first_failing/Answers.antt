-- `failing::first_failing` meets its contract. The invariant: no codeword before n fails.
-- Assumes nothing.
use mathlib.Core.Path.{sym, ◌∙◌}
use mathlib.Core.Bool.{false≢true}
use native.Mathlib.Omega.{arith}
use borrow.Author.Count.{below_more}
use Rattle.failing.proofs.Search.{ends_at, ends_past}
use Rattle.failing.proofs.first_failing.Goals as goal

pub loop-n-init : goal.loop-n-init
loop-n-init c = λ k h. absurd (omega arith)

pub returns-then-fails : goal.returns-then-fails
returns-then-fails c =
    let words = c.words_of-n-end.ensures in
    ends_at c.args.parity c.args.s.now c.loop-n.n c.loop-n.invariant (omega (arith, words)) (sym c.fails.ensures ∙ c.if-fails.true)

pub loop-n-preserved : goal.loop-n-preserved
loop-n-preserved c =
    below_more _ c.loop-n.n c.loop-n.invariant (λ e. false≢true (sym c.if-fails.false ∙ c.fails.ensures ∙ e))

pub returns : goal.returns
returns c =
    let words = c.words_of-n-end.ensures in
    ends_past c.args.parity c.args.s.now c.loop-n.n c.loop-n.invariant (omega (arith, words))
