-- `crc::bring_byte` meets its contract: the steps for the j bits that are left end where those for all eight do.
-- Assumes nothing.
use mathlib.Core.Path.{◌≡◌, sym, ap, ◌∙◌}
use Prim.Native.Nat.{ℕ, suc, ◌-◌, ◌/◌, ◌%◌, ◌^◌, ◌<◌}
use native.Mathlib.Omega.{arith}
use Rattle.bits.specs.Bits.{bits_of}
use Rattle.crc.specs.Inner.Register.{step, steps}
use Rattle.crc.proofs.bring_byte.Goals as goal

-- one bit fewer is left
one_fewer : (b r r' j : ℕ) → 0 < j → r' ≡ step r (b / 2 ^ (j - 1) % 2) → steps r' (bits_of (j - 1) b) ≡ steps r (bits_of j b)
unfolding steps
one_fewer b r r' j h e =
    let s : suc (j - 1) ≡ j = omega arith in
    ap (λ (x : ℕ). steps x (bits_of (j - 1) b)) e ∙ ap (λ (k : ℕ). steps r (bits_of k b)) s

none_left : (b r j : ℕ) → j ≡ 0 → steps r (bits_of j b) ≡ r
unfolding steps
none_left b r j e = ap (λ (k : ℕ). steps r (bits_of k b)) e

pub loop-j-preserved : goal.loop-j-preserved
loop-j-preserved c = one_fewer _ _ _ _ (omega (arith, c.loop-j-test.true)) c.bring-r.ensures ∙ c.loop-j.invariant

pub returns : goal.returns
returns c = sym (none_left _ _ _ (omega (arith, c.loop-j-test.false))) ∙ c.loop-j.invariant
