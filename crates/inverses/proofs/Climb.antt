-- The inverse as a^254: from 1, seven times squared and times a, which makes the exponents 1, 3, 7, .., 127, and once more squared.
-- Of 0 this is 0; of α^e it is α^(254e), which times α^e is α^(255e), that is 1.
-- Assumes nothing.
use mathlib.Core.Path.{◌≡◌, refl, sym, ap, ◌∙◌}
use Prim.Native.Nat.{ℕ, zero, suc, ◌+◌, ◌%◌, ◌≤◌, ◌<◌}
use native.Mathlib.Numerals.{add-one}
use native.Mathlib.Omega.{arith}
use Rattle.field.specs.Field.{power, mul}
use Rattle.field.specs.Field.Linear.{mul-zero_l, mul-zero-r}
use Rattle.field.specs.Field.Powers.{power-lt, power_zero, power_nonzero, power-mod, mul_power, byte_ind}
use Rattle.field.specs.Inverse.{InverseOf}

-- after n turns
pub climb : ℕ → ℕ → ℕ
climb a zero = 1
climb a (suc n) = mul (mul (climb a n) (climb a n)) a

climb_zero : (n : ℕ) → climb 0 (suc n) ≡ 0
unfolding climb
climb_zero n = mul-zero-r (mul (climb 0 n) (climb 0 n))

-- ---- the exponent of α after n turns, where a is α^e

after_turns : ℕ → ℕ → ℕ
after_turns e zero = 0
after_turns e (suc n) = after_turns e n + after_turns e n + e

climb_power : (e n : ℕ) → climb (power e) n ≡ power (after_turns e n)
unfolding climb after_turns
climb_power e zero = sym power_zero
climb_power e (suc n) =
    ap (λ (x : ℕ). mul (mul x x) (power e)) (climb_power e n)
    ∙ ap (λ (x : ℕ). mul x (power e)) (mul_power (after_turns e n) (after_turns e n))
    ∙ mul_power (after_turns e n + after_turns e n) e

square_power : (e n : ℕ) → mul (climb (power e) n) (climb (power e) n) ≡ power (after_turns e n + after_turns e n)
square_power e n = ap (λ (x : ℕ). mul x x) (climb_power e n) ∙ mul_power (after_turns e n) (after_turns e n)

whole : (e : ℕ) → (e + (after_turns e 7 + after_turns e 7)) % 255 ≡ 0
unfolding after_turns
whole e = omega arith

seven : (a : ℕ) → a < 256 → InverseOf a (mul (climb a 7) (climb a 7))
seven =
    byte_ind (λ a. InverseOf a (mul (climb a 7) (climb a 7)))
    (let z : mul (climb 0 7) (climb 0 7) ≡ 0 = ap (λ (x : ℕ). mul x (climb 0 7)) (climb_zero 6) ∙ mul-zero_l (climb 0 7) in
    record { byte = omega arith; of_zero = λ _. z; unit = λ n. absurd (n refl) })
    (λ e.
    let x = after_turns e 7 + after_turns e 7 in
    record {
      byte = omega (arith, square_power e 7, power-lt x);
      of_zero = λ z. absurd (power_nonzero e z);
      unit = λ _. ap (mul (power e)) (square_power e 7) ∙ mul_power e x ∙ sym (power-mod (e + x)) ∙ ap power (whole e) ∙ power_zero;
    })

-- ---- the invariant of the loop

pub record Climbing (a n r : ℕ) : Type 0 where
  pub upto : n ≤ 7
  pub is : r ≡ climb a n

pub climbing_none : (a : ℕ) → Climbing a 0 1
unfolding climb
climbing_none a = record { upto = omega arith; is = refl }

module _ {a n r : ℕ} (f : Climbing a n r) where
  square_is : (s : ℕ) → s ≡ mul r r → s ≡ mul (climb a n) (climb a n)
  square_is s p = p ∙ ap (λ (x : ℕ). mul x x) f.is

  pub climbing_more : (s t : ℕ) → s ≡ mul r r → t ≡ mul s a → n < 7 → Climbing a (n + 1) t
  unfolding climb
  climbing_more s t p q h = record { upto = omega arith; is = rw add-one (q ∙ ap (λ (x : ℕ). mul x a) (square_is s p)) }

  pub climbing_all : (s : ℕ) → s ≡ mul r r → a < 256 → 7 ≤ n → InverseOf a s
  climbing_all s p h l =
      let e : n ≡ 7 = omega (arith, f.upto) in
      rw (square_is s p ∙ ap (λ (k : ℕ). mul (climb a k) (climb a k)) e) (seven a h)
