-- `fields::field` meets its contract: the bits lie in three bytes (`read_three`), or do not (`read_short`, `read_long`).
-- Assumes nothing.
use mathlib.Core.Path.{ap, ◌∙◌}
use Prim.Native.Nat.{ℕ, ◌+◌, ◌-◌, ◌%◌, ◌/◌, ◌^◌}
use native.Mathlib.Nat.{mod-lt}
use native.Mathlib.Omega.{arith}
use lib.Pow.{pow_pos}
use Rattle.fields.specs.Packed.Read.{read_three, read_short, read_long}
use Rattle.fields.proofs.Unit.{unit_is}
use Rattle.fields.proofs.field.Goals.{then-i-packed-via-then-i-packed, then-i-packed-via-else-i-packed+then-n-j}
use Rattle.fields.proofs.field.Goals as goal

pub returns-then-i-packed : goal.returns-then-i-packed
returns-then-i-packed c =
    elim c.then-i-packed.branch [
      | then-i-packed-via-then-i-packed w ↦ (read_short _ _ _ w.if-i-packed.true, pow_pos c.args.n)
      | then-i-packed-via-else-i-packed+then-n-j w ↦ (read_long _ _ _ w.if-i-packed.false w.if-n-j.true, pow_pos c.args.n)
    ]

pub nonzero_rem-result : goal.nonzero_rem-result
nonzero_rem-result c =
    let n = c.args.n in
    rw (unit_is n (omega (arith, c.if-n-j.false))) (pow_pos n)

pub returns : goal.returns
returns c =
    let a = c.args in
    let p = a.p in
    let n = a.n in
    rw (unit_is n (omega (arith, c.if-n-j.false))) (
      ap (λ (x : ℕ). x / 2 ^ (24 - (p % 8 + n)) % 2 ^ n) c.joined-x.ensures.0
          ∙ read_three a.packed.now p n (λ i. (c.shared_slice_known-4-1.given i).fits) c.if-i-packed.false c.if-n-j.false,
      mod-lt _ (pow_pos n),
    )
