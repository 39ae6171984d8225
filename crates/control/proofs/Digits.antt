-- The digits of a Catalog Number by their places, the last first.
-- Assumes nothing.
use Rattle.std.specs.Prelude.{◌≡◌, refl, Bool, true, false, ◌&&◌, ℕ, zero, suc, ◌+◌, ◌*◌, ◌/◌, ◌%◌, ◌^◌, eqb, ltb}
use Rattle.std.specs.List.{list_all, range_with_len}
use Rattle.std.proofs.Common.{sym, ap, ◌∙◌, arith, shr-shr}
use Rattle.control.specs.Fields.{decimal_digits}

-- digit i of a number is decimal
abbrev pub decimal_at : ℕ → ℕ → Bool
decimal_at n i = ltb (n / 2 ^ (4 * i) % 16) 10

and_assoc : (a b c : Bool) → (a && (b && c)) ≡ ((a && b) && c)
and_assoc true b c = refl
and_assoc false b c = refl

-- k digits from place a on, and nothing above them
from : (n k a : ℕ) → decimal_digits k (n / 2 ^ (4 * a)) ≡ (list_all (decimal_at n) (range_with_len a k) && eqb (n / 2 ^ (4 * (a + k))) 0)
unfolding decimal_digits
from n zero a =
    let e : a ≡ a + 0 = omega arith in
    ap (λ (i : ℕ). eqb (n / 2 ^ (4 * i)) 0) e
from n (suc k) a =
    let d : 4 * a + 4 ≡ 4 * (a + 1) = omega arith in
    let e : a + 1 + k ≡ a + suc k = omega arith in
    ap (λ (m : ℕ). decimal_at n a && decimal_digits k m) (shr-shr n (4 * a) 4 ∙ ap (λ (i : ℕ). n / 2 ^ i) d)
    ∙ ap (λ (t : Bool). decimal_at n a && t) (from n k (a + 1) ∙ ap (λ (i : ℕ). list_all (decimal_at n) (range_with_len (a + 1) k) && eqb (n / 2 ^ (4 * i)) 0) e)
    ∙ and_assoc (decimal_at n a) (list_all (decimal_at n) (range_with_len (a + 1) k)) (eqb (n / 2 ^ (4 * (a + suc k))) 0)

-- all thirteen digits
pub by_place : (n : ℕ) → decimal_digits 13 n ≡ (list_all (decimal_at n) (range_with_len 0 13) && eqb (n / 2 ^ 52) 0)
by_place n =
    let e : n / 2 ^ (4 * 0) ≡ n = omega arith in
    ap (decimal_digits 13) (sym e) ∙ from n 13 0
