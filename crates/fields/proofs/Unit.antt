-- Two to the n, as the code makes it.
-- Assumes nothing.
use mathlib.Core.Path.{◌≡◌, ap, ◌∙◌}
use Prim.Native.Nat.{ℕ, ◌*◌, ◌%◌, ◌≤◌, ◌^◌}
use native.Mathlib.Nat.{one-mul, mod-eq_of_lt}
use native.Mathlib.Omega.{arith}
use lib.Pow.{pow_mono}

pub unit_is : (n : ℕ) → n ≤ 24 → 1 * 2 ^ n % 18446744073709551616 ≡ 2 ^ n
unit_is n h =
    let p : 2 ^ n ≤ 2 ^ 24 = pow_mono {i = n} {j = 24} h in
    ap (λ (x : ℕ). x % 18446744073709551616) (one-mul (2 ^ n)) ∙ mod-eq_of_lt (omega arith)
