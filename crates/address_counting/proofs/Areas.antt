-- Which numbers stay small: how many addresses come before the last of an area, and the bytes of the next address.
-- Assumes nothing.
use mathlib.Core.Path.{◌≡◌, refl, ap}
use mathlib.Core.Bool.{Bool, true, false, cond}
use Prim.Native.Nat.{◌-◌, ◌<◌}
use native.Mathlib.Omega.{arith}
use Rattle.address.specs.declared.HeaderTime.{HeaderTime}
use Rattle.address.specs.Address.{in_lead_in, in_range}
use Rattle.digits.specs.Digits.{two_digits}
use Rattle.address.specs.Order.{minutes_before, rank}
use Rattle.address_counting.specs.Count.{last_of, has_next}
use Rattle.address_counting.specs.Count.Bytes.{value, Digits}
use Rattle.address_counting.specs.Count.OneMore.{ranged, minute, top, minute-digits, not_last_minute, has_next_lem}

-- the place of the last address is a number that fits
pub last_small : (t : HeaderTime) → rank (last_of t) < 720000
unfolding rank minutes_before in_lead_in two_digits
last_small t = by (in_lead_in t)
  where
    by : (b : Bool) → rank (cond b (record { 0 = 0xF9; 1 = 0x59; 2 = 0x74 }) (record { 0 = 0x99; 1 = 0x59; 2 = 0x74 })) < 720000
    by true = omega arith
    by false = omega arith

-- where an area goes on, the bytes of the next address stay bytes
module _ (t : HeaderTime) (e : has_next t ≡ true) where
  both : (in_range t ≡ true) × (rank t < rank (last_of t))
  both = has_next_lem t e

  pub frame_small : t.2 < 249
  frame_small = omega (arith, (ranged t both.0).frame.tens)

  pub second-small : t.1 < 249
  second-small = omega (arith, (ranged t both.0).second.tens)

  pub minute-small : t.1 ≡ 0x59 → t.2 ≡ 0x74 → t.0 < 249
  unfolding value minute top
  minute-small s f = by (in_lead_in t) refl (minute-digits t (ranged t both.0)) (not_last_minute t both.0 both.1 (ap value s) (ap value f))
    where
      by : (b : Bool) → in_lead_in t ≡ b → Digits (cond b 59 99) (cond b (t.0 - 0xA0) t.0) → value (cond b (t.0 - 0xA0) t.0) < cond b 59 99 → t.0 < 249
      by true q d l = omega (arith, d.tens, d.ones)
      by false q d l = omega (arith, d.tens)
