-- Four sums twisted.
-- Assumes nothing.
use mathlib.Core.Path.{◌≡◌}
use mathlib.Core.List.{List, [], ◌∷◌}
use Prim.Native.Nat.{ℕ}
use native.Mathlib.Omega.{arith}
use lib.Bits.{bit_xor}
use lib.ListN.{length, get_or, get_or-eq_default}
use Rattle.field.specs.Field.{mul}
use Rattle.erasures.specs.Errors.{step}

-- four sums twisted, by their products
pub step_is : (s : List ℕ) (x : ℕ) → length s ≡ 4 → {a b c d : ℕ} → a ≡ mul (get_or s 0 0) x → b ≡ mul (get_or s 1 0) x → c ≡ mul (get_or s 2 0) x
    → d ≡ mul (get_or s 3 0) x → bit_xor (get_or s 1 0) a ∷ bit_xor (get_or s 2 0) b ∷ bit_xor (get_or s 3 0) c ∷ d ∷ [] ≡ step x s
step_is s x l {a} {b} {c} {d} p q r t =
    let z : get_or s 4 0 ≡ 0 = get_or-eq_default s 0 (omega arith) in
    rw (p, q, r, t, z)
