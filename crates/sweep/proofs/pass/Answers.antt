-- `sweep::pass` meets its contract. The loop's invariant: s0 and s1 are the sums of the columns of the rows passed (`Passing`).
-- Assumes nothing.
use mathlib.Core.Path.{◌≡◌, sym, ap, ◌∙◌}
use Prim.Native.Nat.{ℕ, ◌<◌}
use native.Mathlib.Omega.{arith}
use lib.ListN.{length}
use Rattle.std.specs.Slice.Iter.{chunks_exact_rest, chunks_exact_size}
use Rattle.sweep.specs.Columns.{all_sums}
use Rattle.sweep.proofs.Sweeping.{sweeping_none, passing_more, passing_all}
use Rattle.sweep.proofs.pass.Goals as goal

pub loop-row-init : goal.loop-row-init
loop-row-init c =
    let from = c.into_iter-row-iterator.ensures.into_iter_gives in
    let chunks = c.chunks_exact-row-items.ensures in (
      record {
        at = 0;
        so_far =
            sweeping_none c.args.rows.now c.args.s0.now c.args.s1.now _ _
            (λ i. (c.shared_slice_known-1.given i).fits)
            c.requires.0 c.requires.1 c.clear.ensures c.clear-2.ensures;
        left = sym (ap chunks_exact_rest from ∙ chunks.rest);
      },
      ap chunks_exact_size from ∙ chunks.size,
    )

pub loop-row-preserved : goal.loop-row-preserved
loop-row-preserved c =
    let inv = c.loop-row.invariant in
    let step = c.in-Some.ensures.steps in (
      passing_more inv.0 c.in-Some.row.now _ step.1.0 (step.1.1 ∙ inv.1) c.add.result _ _ c.add.ensures c.raise.ensures,
      step.0 ∙ inv.1,
    )

pub returns : goal.returns
returns c =
    let rows = c.args.rows.now in
    let inv = c.loop-row.invariant in
    let width : length c.clear.new.out ≡ length c.args.s0.now = c.clear.auto.out in
    let rest : length (chunks_exact_rest c.loop-row.row-iterator) < chunks_exact_size c.loop-row.row-iterator = c.in-None.ensures.steps.1.0 in
    let all = passing_all inv.0 (omega (arith, rest, inv.1)) in (
      all.0 ∙ ap (λ (w : ℕ). all_sums 0 w rows) width,
      all.1 ∙ ap (λ (w : ℕ). all_sums 1 w rows) width,
    )
