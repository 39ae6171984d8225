-- `xor::add` meets its contract: the loop fills `to` with the list `added` (`Fill`), and a place that is not written yet is as it was.
-- Assumes nothing.
use Prim.Native.Nat.{ℕ, ◌<◌}
use mathlib.Core.Path.{◌≡◌, refl, sym, ap, ◌∙◌}
use native.Mathlib.Nat.{le_refl}
use native.Mathlib.Omega.{arith}
use borrow.Author.Tests.{eq-eqb, ne_eqb}
use lib.Bits.{bit_xor}
use lib.ListN.{length, get_or}
use Rattle.outcome.specs.Buffer.Filled.{filling-none, filling_long, filling_more, filling_all, filling_rest}
use Rattle.xor.specs.Added.Places.{length-added, added-at}
use Rattle.xor.proofs.add.Goals as goal

pub returns-then-to-what : goal.returns-then-to-what
returns-then-to-what c = (sym (ne_eqb _ _ c.if-to-what.true), refl)

pub loop-i-init : goal.loop-i-init
loop-i-init c = filling-none _ _ (sym (length-added c.args.to.now c.args.what.now c.if-to-what.false))

pub bounds-to-i : goal.bounds-to-i
bounds-to-i c = omega (arith, filling_long c.loop-i.invariant)

pub bounds-to-i-in-loop-i : goal.bounds-to-i-in-loop-i
bounds-to-i-in-loop-i c = omega (arith, filling_long c.loop-i.invariant)

pub loop-i-preserved : goal.loop-i-preserved
loop-i-preserved c =
    let to = c.args.to.now in
    let what = c.args.what.now in
    let i = c.loop-i.i in
    let e : length to ≡ length what = c.if-to-what.false in
    let l : i < length what = c.loop-i-test.true in
    filling_more c.loop-i.invariant _ (omega (arith, length-added to what e))
    (ap (λ (x : ℕ). bit_xor x (get_or what i 0)) (filling_rest c.loop-i.invariant i (le_refl i)) ∙ sym (added-at to what i (omega arith) l))

pub shape_of-to : goal.shape_of-to
shape_of-to c = filling_long c.loop-i.invariant

pub returns : goal.returns
returns c =
    let to = c.args.to.now in
    let what = c.args.what.now in
    let e : length to ≡ length what = c.if-to-what.false in
    (sym (eq-eqb (length to) (length what) e), filling_all c.loop-i.invariant (omega (arith, length-added to what e)))
