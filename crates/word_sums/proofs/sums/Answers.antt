-- `word_sums::sums` meets its contract. After some bytes the sums are those of these bytes; the inner loop takes one byte more into each (`one_more`).
-- Assumes nothing.
use Rattle.std.proofs.Common.{sym, ap, ◌∙◌, List, ℕ, ◌+◌, le_refl, arith, length, get_or}
use Rattle.outcome.specs.Buffer.Filled.{filling-none, filling_more, filling_all, filling_rest}
use Rattle.word_sums.proofs.Horner.{length-so_far, none, one_more, all}
use Rattle.word_sums.proofs.sums.Goals as goal

pub loop-b-init : goal.loop-b-init
loop-b-init g c = none g.row.N c.args.w.now

pub loop-j-init : goal.loop-j-init
loop-j-init g c =
    let w = c.args.w.now in
    let i = c.loop-b.b-index in
    filling-none _ _ (ap length c.loop-b.invariant ∙ length-so_far g.row.N w i ∙ sym (length-so_far g.row.N w (i + 1)))

pub loop-j-preserved : goal.loop-j-preserved
loop-j-preserved g c =
    let w = c.args.w.now in
    let i = c.loop-b.b-index in
    let j = c.loop-j.j in
    filling_more c.loop-j.invariant _ (omega (arith, length-so_far g.row.N w (i + 1)))
    (one_more g.row.N w i j (λ k. (c.type_inv.w k).fits) (omega arith) (omega (arith, length-so_far g.row.N w (i + 1)))
    (filling_rest c.loop-j.invariant j (le_refl j) ∙ ap (λ (l : List ℕ). get_or l j 0) c.loop-b.invariant)
    c.times_power.ensures)

pub loop-b-preserved : goal.loop-b-preserved
loop-b-preserved g c =
    let w = c.args.w.now in
    let i = c.loop-b.b-index in
    filling_all c.loop-j.invariant (omega (arith, length-so_far g.row.N w (i + 1)))

pub returns : goal.returns
returns g c = c.loop-b.invariant ∙ all g.row.N c.args.w.now _ (omega arith)
