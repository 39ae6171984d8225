-- The powers of α: each is a byte but 0; the first 255 are different, and every byte but 0 is one of them.
-- The facts about single bytes are tests that are computed at all 256.
-- Assumes nothing.
use Rattle.std.specs.Prelude.{◌≡◌, refl, Bool, ◌⊎◌, ℕ, zero, suc, ◌+◌, ◌-◌, ◌*◌, ◌/◌, ◌%◌, ◌≤◌, ◌<◌, eqb, ltb}
use Rattle.std.proofs.Common.{sym, ap, ◌∙◌, subst, inl, inr, zero-mul, zero-add, add-zero, suc-add, div-add-mod', arith, eqb→eq, ltb→lt}
use Rattle.std.specs.Int.Bits.{bit_xor}
use Rattle.outcome.specs.First.Found.{lt-or-le}
use Rattle.outcome.specs.Table.Entries.{below}
use Rattle.field.specs.Field.{times_alpha, power, mul_bits, mul}
use Rattle.field.specs.Field.Linear.{times_alpha-zero, mul_alpha}
use Rattle.field.specs.Field.Exponents.{order, exponent}

-- ---- bytes

alpha_byte : ℕ → Bool
alpha_byte x = ltb (times_alpha x) 256

pub times_alpha-lt : (x : ℕ) → x < 256 → times_alpha x < 256
unfolding alpha_byte times_alpha
times_alpha-lt x h = ltb→lt (times_alpha x) 256 (below alpha_byte 256 tt x h)

-- α divided out again
over_alpha : ℕ → ℕ
over_alpha y = bit_xor y (y % 2 * 0x11D) / 2

alpha_back : ℕ → Bool
alpha_back x = eqb (over_alpha (times_alpha x)) x

times_alpha-back : (x : ℕ) → x < 256 → over_alpha (times_alpha x) ≡ x
unfolding alpha_back times_alpha over_alpha
times_alpha-back x h = eqb→eq (over_alpha (times_alpha x)) x (below alpha_back 256 tt x h)

pub times_alpha_inj : (a b : ℕ) → a < 256 → b < 256 → times_alpha a ≡ times_alpha b → a ≡ b
times_alpha_inj a b ha hb e = sym (times_alpha-back a ha) ∙ ap over_alpha e ∙ times_alpha-back b hb

one_times : ℕ → Bool
one_times x = eqb (mul 1 x) x

pub mul-one_l : (x : ℕ) → x < 256 → mul 1 x ≡ x
unfolding one_times mul mul_bits times_alpha
mul-one_l x h = eqb→eq (mul 1 x) x (below one_times 256 tt x h)

-- ---- powers

pub power-lt : (n : ℕ) → power n < 256
unfolding power
power-lt zero = omega arith
power-lt (suc n) = times_alpha-lt (power n) (power-lt n)

pub power_zero : power 0 ≡ 1
unfolding power
power_zero = refl

pub power-suc : (n : ℕ) → power (suc n) ≡ times_alpha (power n)
unfolding power
power-suc n = refl

pub power_nonzero : (n : ℕ) → power n ≡ 0 → ⊥
unfolding power
power_nonzero zero e = omega arith
power_nonzero (suc n) e = power_nonzero n (times_alpha_inj (power n) 0 (power-lt n) (omega arith) (e ∙ sym times_alpha-zero))

-- exponents add
pub mul_power : (i j : ℕ) → mul (power i) (power j) ≡ power (i + j)
unfolding power
mul_power zero j = mul-one_l (power j) (power-lt j) ∙ ap power (sym (zero-add j))
mul_power (suc i) j = mul_alpha (power i) (power j) ∙ ap times_alpha (mul_power i j) ∙ ap power (sym (suc-add i j))

-- ---- the period of 255

pub power_255 : power 255 ≡ 1
unfolding power times_alpha
power_255 = refl

-- the powers start again after 255
pub power_period : (n : ℕ) → power (255 + n) ≡ power n
power_period n = sym (mul_power 255 n) ∙ ap (λ (x : ℕ). mul x (power n)) power_255 ∙ mul-one_l (power n) (power-lt n)

-- an exponent counts modulo 255
pub power-mod : (n : ℕ) → power (n % 255) ≡ power n
power-mod n = go (n / 255) (n % 255) ∙ ap power (div-add-mod' n 255)
  where
    go : (q r : ℕ) → power r ≡ power (q * 255 + r)
    go zero r = ap power (sym (ap (λ (x : ℕ). x + r) (zero-mul 255) ∙ zero-add r))
    go (suc q) r =
        let e : 255 + (q * 255 + r) ≡ suc q * 255 + r = omega arith in
        go q r ∙ sym (power_period (q * 255 + r)) ∙ ap power e

-- ---- no two below 255 are equal

-- what is added to both exponents may be left out
shift : (t i j : ℕ) → power (t + i) ≡ power (t + j) → power i ≡ power j
shift zero i j e = sym (ap power (zero-add i)) ∙ e ∙ ap power (zero-add j)
shift (suc t) i j e =
    shift t i j
    (times_alpha_inj (power (t + i)) (power (t + j)) (power-lt (t + i)) (power-lt (t + j))
    (sym (power-suc (t + i)) ∙ ap power (sym (suc-add t i)) ∙ e ∙ ap power (suc-add t j) ∙ power-suc (t + j)))

-- a power is met again 255 places later at the earliest
apart : (i d : ℕ) → d < 254 → power (i + suc d) ≡ power i → ⊥
apart i d h e = order d h (shift i (suc d) 0 (e ∙ ap power (sym (add-zero i))) ∙ power_zero)

pub power_inj : (i j : ℕ) → i < 255 → j < 255 → power i ≡ power j → i ≡ j
power_inj i j hi hj e = go (lt-or-le i j) (lt-or-le j i)
  where
    go : (i < j) ⊎ (j ≤ i) → (j < i) ⊎ (i ≤ j) → i ≡ j
    go (inl l) q = absurd (apart i (j - i - 1) (omega arith) (let s : i + suc (j - i - 1) ≡ j = omega arith in ap power s ∙ sym e))
    go (inr l) (inl m) = absurd (apart j (i - j - 1) (omega arith) (let s : j + suc (i - j - 1) ≡ i = omega arith in ap power s ∙ e))
    go (inr l) (inr m) = omega arith

-- ---- every byte but 0 is a power

pub byte_cases : (x : ℕ) → x < 256 → (x ≡ 0) ⊎ ((n : ℕ) × (n < 255) × (power n ≡ x))
byte_cases zero h = inl refl
byte_cases (suc x) h = inr (exponent x (omega arith))

-- what holds of 0 and of the powers holds of each byte
pub byte_ind : (P : ℕ → Type 0) → P 0 → ((n : ℕ) → P (power n)) → (x : ℕ) → x < 256 → P x
byte_ind P z p x h = pick (byte_cases x h)
  where
    pick : (x ≡ 0) ⊎ ((n : ℕ) × (n < 255) × (power n ≡ x)) → P x
    pick (inl e) = subst P (sym e) z
    pick (inr l) = subst P l.2 (p l.0)
