-- The product of y plus the weight of each marked place: 0 where y is such a weight, and only there.
-- Assumes nothing.
use Rattle.std.specs.Prelude.{◌≡◌, List, [], ◌∷◌, ℕ, zero, suc, ◌-◌, ◌≤◌, ◌<◌, length, get_or}
use Rattle.std.proofs.Common.{sym, ap, ◌∙◌, arith, eq-eqb, ne_eqb}
use Rattle.std.proofs.Math.Decide.{ℕ_discrete}
use Rattle.std.specs.Int.Bits.{bit_xor, xor_self}
use Rattle.std.proofs.lemmas.Nat.{xor_lt}
use Rattle.xor.specs.Xor.Group.{xor_equal}
use Rattle.field.specs.Field.{power, mul}
use Rattle.field.specs.Field.Linear.{mul-zero_l, mul-zero-r}
use Rattle.field.specs.Field.Powers.{power-lt, power_inj}
use Rattle.field.specs.Field.Product.{mul_byte, mul_domain}
use Rattle.erasures.specs.Errors.{factor}

pub factor-unmarked : (m : ℕ) (ms : List ℕ) (y : ℕ) → m ≡ 0 → factor (m ∷ ms) y ≡ factor ms y
unfolding factor
factor-unmarked m ms y e = rw (eq-eqb m 0 e)

pub factor-marked : (m : ℕ) (ms : List ℕ) (y : ℕ) → (m ≡ 0 → ⊥) → factor (m ∷ ms) y ≡ mul (factor ms y) (bit_xor y (power (length ms)))
unfolding factor
factor-marked m ms y n = rw (ne_eqb m 0 n)

pub factor-lt : (ms : List ℕ) (y : ℕ) → y < 256 → factor ms y < 256
unfolding factor
factor-lt [] y h = omega arith
factor-lt (m ∷ ms) y h = go (ℕ_discrete m 0) (factor-lt ms y h)
  where
    go : Dec (m ≡ 0) → factor ms y < 256 → factor (m ∷ ms) y < 256
    go (yes e) r = omega (arith, factor-unmarked m ms y e)
    go (no n) r =
        omega (
          arith,
          factor-marked m ms y n,
          mul_byte (factor ms y) (bit_xor y (power (length ms))) r (xor_lt 8 y (power (length ms)) h (power-lt (length ms))),
        )

-- at the weight of a marked place it is 0
pub factor-zero : (ms : List ℕ) (q : ℕ) → q < length ms → (get_or ms q 0 ≡ 0 → ⊥) → factor ms (power (length ms - 1 - q)) ≡ 0
factor-zero [] q l n = absurd (omega arith)
factor-zero (m ∷ ms) zero l n =
    factor-marked m ms (power (length (m ∷ ms) - 1 - 0)) n
    ∙ ap (mul (factor ms (power (length (m ∷ ms) - 1 - 0))))
    (let e : length (m ∷ ms) - 1 - 0 ≡ length ms = omega arith in
    ap (λ (k : ℕ). bit_xor (power k) (power (length ms))) e ∙ xor_self (power (length ms)))
    ∙ mul-zero-r (factor ms (power (length (m ∷ ms) - 1 - 0)))
factor-zero (m ∷ ms) (suc q) l n =
    let e : length (m ∷ ms) - 1 - suc q ≡ length ms - 1 - q = omega arith in
    ap (λ (k : ℕ). factor (m ∷ ms) (power k)) e ∙ go (ℕ_discrete m 0) (factor-zero ms q (omega arith) n)
  where
    go : Dec (m ≡ 0) → factor ms (power (length ms - 1 - q)) ≡ 0 → factor (m ∷ ms) (power (length ms - 1 - q)) ≡ 0
    go (yes z) r = factor-unmarked m ms (power (length ms - 1 - q)) z ∙ r
    go (no z) r =
        factor-marked m ms (power (length ms - 1 - q)) z
        ∙ ap (λ (x : ℕ). mul x (bit_xor (power (length ms - 1 - q)) (power (length ms)))) r
        ∙ mul-zero_l (bit_xor (power (length ms - 1 - q)) (power (length ms)))

-- at a weight that is no marked place's it isn't
pub factor_nonzero : (ms : List ℕ) (a : ℕ) → a < 255 → length ms ≤ 255
    → ((q : ℕ) → q < length ms → (get_or ms q 0 ≡ 0 → ⊥) → length ms - 1 - q ≡ a → ⊥) → factor ms (power a) ≡ 0 → ⊥
unfolding factor
factor_nonzero [] a ha l h z = omega arith
factor_nonzero (m ∷ ms) a ha l h z =
    go (ℕ_discrete m 0) (factor_nonzero ms a ha (omega arith) (λ q k n e. h (suc q) (omega arith) n (omega arith)))
  where
    go : Dec (m ≡ 0) → (factor ms (power a) ≡ 0 → ⊥) → ⊥
    go (yes e) before = before (sym (factor-unmarked m ms (power a) e) ∙ z)
    go (no n) before =
        before
        (mul_domain (factor ms (power a)) (bit_xor (power a) (power (length ms))) (factor-lt ms (power a) (power-lt a))
        (xor_lt 8 (power a) (power (length ms)) (power-lt a) (power-lt (length ms)))
        (λ e. apart (power_inj a (length ms) ha (omega arith) (xor_equal (power a) (power (length ms)) e)))
        (sym (factor-marked m ms (power a) n) ∙ z))
      where
        apart : a ≡ length ms → ⊥
        apart e = h 0 (omega arith) n (omega arith)
