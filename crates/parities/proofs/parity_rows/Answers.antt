-- `parities::parity_rows` meets its contract. The loop's invariant: the columns below k have their parity, the others their sums (`Parting`).
-- Assumes nothing.
use mathlib.Core.Path.{◌≡◌, ◌∙◌, subst}
use Prim.Native.Nat.{ℕ}
use native.Mathlib.Omega.{arith}
use lib.ListN.{length}
use Rattle.parities.specs.Inner.ParityRows.{ParityRows}
use Rattle.parities.proofs.Parting.{parting_none, parting_pair, parting_all}
use Rattle.parities.proofs.parity_rows.Goals as goal

pub loop-k-init : goal.loop-k-init
loop-k-init c =
    parting_none (λ i. (c.shared_slice_known-1.given i).fits)
    c.sums.ensures c.requires.0 c.requires.1

pub loop-k-preserved : goal.loop-k-preserved
loop-k-preserved c =
    parting_pair c.loop-k.invariant _ (omega arith) c.parity_from_sums.ensures

pub shape_of-p0 : goal.shape_of-p0
shape_of-p0 c = c.loop-k.invariant.long_p ∙ (let width : length c.sums.new.s0
    ≡ length c.args.p0.now = c.sums.auto.s0 in width)

pub shape_of-p1 : goal.shape_of-p1
shape_of-p1 c =
    c.loop-k.invariant.long_q ∙ (let width : length c.sums.new.s0
    ≡ length c.args.p0.now = c.sums.auto.s0 in width)
    ∙ c.requires.0

pub returns : goal.returns
returns c =
    subst (λ (w : ℕ). ParityRows w c.args.rows.now
    c.loop-k.p0 c.loop-k.p1) (let width : length c.sums.new.s0
    ≡ length c.args.p0.now = c.sums.auto.s0 in width) (parting_all c.loop-k.invariant (omega (arith, c.loop-k.invariant.long_p)))
