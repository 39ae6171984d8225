-- `keeping::put_runs` meets its contract: the loop's invariant is that the first i counts are in the list (`Writing`).
-- Assumes nothing.
use Prim.Native.Nat.{ℕ}
use mathlib.Core.Path.{sym, ap, ◌∙◌}
use lib.ListN.{length, length-replicate}
use Rattle.keeping.proofs.Writing.{writing-none, writing_long, writing_more, writing_all}
use Rattle.keeping.proofs.put_runs.Goals as goal

pub loop-i-init : goal.loop-i-init
loop-i-init c = search writing-none

pub loop-i-preserved : goal.loop-i-preserved
loop-i-preserved c = search writing_more

pub shape_of-list : goal.shape_of-list
shape_of-list c = let p = c.requires in writing_long p.short c.loop-i.invariant ∙ sym (ap length p.zeros ∙ length-replicate {A = ℕ} 98304 0)

pub returns : goal.returns
returns c = let p = c.requires in writing_all p.short c.loop-i.invariant (λ i. (c.shared_slice_known-1.given i).fits) c.loop-i-test.false
