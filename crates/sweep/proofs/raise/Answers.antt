-- `sweep::raise` meets its contract: the loop fills `to` with the list `risen` (`Fill`), and a place that is not written yet is as it was.
-- Assumes nothing.
use Prim.Native.Nat.{ℕ, ◌<◌}
use mathlib.Core.Path.{◌≡◌, sym, ap, ◌∙◌}
use native.Mathlib.Nat.{le_refl}
use native.Mathlib.Omega.{arith}
use lib.Bits.{bit_xor}
use lib.ListN.{length, get_or}
use Rattle.outcome.specs.Buffer.Filled.{filling-none, filling_long, filling_more, filling_all, filling_rest}
use Rattle.field.specs.Field.{times_alpha}
use Rattle.sweep.proofs.Rows.{length-risen, risen-at}
use Rattle.sweep.proofs.raise.Goals as goal

pub loop-k-init : goal.loop-k-init
loop-k-init c = filling-none _ _ (sym (length-risen c.args.to.now c.args.row.now))

pub bounds-to-k : goal.bounds-to-k
bounds-to-k c = omega (arith, filling_long c.loop-k.invariant)

pub bounds-to-k-in-loop-k : goal.bounds-to-k-in-loop-k
bounds-to-k-in-loop-k c = omega (arith, filling_long c.loop-k.invariant)

pub loop-k-preserved : goal.loop-k-preserved
loop-k-preserved c =
    let to = c.args.to.now in
    let row = c.args.row.now in
    let k = c.loop-k.k in
    let e : length to ≡ length row = c.requires in
    let l : k < length row = c.loop-k-test.true in
    filling_more c.loop-k.invariant _ (omega (arith, length-risen to row))
    (ap (λ (x : ℕ). bit_xor x (get_or row k 0))
    (c.times_alpha-raised.ensures ∙ ap times_alpha (filling_rest c.loop-k.invariant k (le_refl k)))
    ∙ sym (risen-at to row k (omega arith)))

pub shape_of-to : goal.shape_of-to
shape_of-to c = filling_long c.loop-k.invariant

pub returns : goal.returns
returns c =
    let e : length c.args.to.now ≡ length c.args.row.now = c.requires in
    filling_all c.loop-k.invariant (omega (arith, length-risen c.args.to.now c.args.row.now))
