-- The product of bytes: commutative, associative, without zero divisors, and every byte but 0 has one inverse.
-- Each is shown for 0 and for the powers of α, which are all the bytes there are.
-- Assumes nothing.
use Rattle.std.specs.Prelude.{◌≡◌, refl, ◌⊎◌, ℕ, suc, ◌+◌, ◌-◌, ◌%◌, ◌<◌}
use Rattle.std.proofs.Common.{sym, ap, ◌∙◌, inl, inr, add_assoc, add_comm, arith}
use Rattle.std.specs.Int.Bits.{bit_xor, xor_self}
use Rattle.std.proofs.lemmas.Nat.{xor_lt}
use Rattle.xor.specs.Xor.Group.{xor_equal}
use Rattle.field.specs.Field.{times_alpha, power, mul}
use Rattle.field.specs.Field.Linear.{mul_xor_r, mul_alpha, mul-zero_l, mul-zero-r}
use Rattle.field.specs.Field.Powers.{power-lt, power-suc, power_nonzero, mul_power, power_255, power-mod, byte_cases, byte_ind}

-- ---- commutative, associative

pub mul_comm : (a b : ℕ) → a < 256 → b < 256 → mul a b ≡ mul b a
mul_comm a b ha hb =
    byte_ind (λ x. mul x b ≡ mul b x) (mul-zero_l b ∙ sym (mul-zero-r b))
    (λ i. byte_ind (λ y. mul (power i) y ≡ mul y (power i)) (mul-zero-r (power i) ∙ sym (mul-zero_l (power i)))
    (λ j. mul_power i j ∙ ap power (add_comm i j) ∙ sym (mul_power j i)) b hb) a ha

-- times two powers, one after the other, is times the power of their sum
pub mul-power-add : (x i j : ℕ) → x < 256 → mul (mul x (power i)) (power j) ≡ mul x (power (i + j))
mul-power-add x i j h =
    byte_ind (λ y. mul (mul y (power i)) (power j) ≡ mul y (power (i + j)))
    (ap (λ (y : ℕ). mul y (power j)) (mul-zero_l (power i)) ∙ mul-zero_l (power j) ∙ sym (mul-zero_l (power (i + j))))
    (λ m. ap (λ (y : ℕ). mul y (power j)) (mul_power m i) ∙ mul_power (m + i) j ∙ ap power (add_assoc m i j) ∙ sym (mul_power m (i + j)))
    x h

-- one power more is times α once more
pub mul-power-suc : (x n : ℕ) → x < 256 → mul x (power (suc n)) ≡ times_alpha (mul x (power n))
mul-power-suc x n h =
    mul_comm x (power (suc n)) h (power-lt (suc n)) ∙ ap (λ (y : ℕ). mul y x) (power-suc n) ∙ mul_alpha (power n) x
    ∙ ap times_alpha (mul_comm (power n) x (power-lt n) h)

pub mul_assoc : (a b c : ℕ) → a < 256 → b < 256 → c < 256 → mul (mul a b) c ≡ mul a (mul b c)
mul_assoc a b c ha hb hc =
    byte_ind (λ z. mul (mul a b) z ≡ mul a (mul b z)) (mul-zero-r (mul a b) ∙ sym (ap (mul a) (mul-zero-r b) ∙ mul-zero-r a))
    (λ j. byte_ind (λ y. mul (mul a y) (power j) ≡ mul a (mul y (power j)))
    (ap (λ (x : ℕ). mul x (power j)) (mul-zero-r a) ∙ mul-zero_l (power j) ∙ sym (ap (mul a) (mul-zero_l (power j)) ∙ mul-zero-r a))
    (λ i. mul-power-add a i j ha ∙ ap (mul a) (sym (mul_power i j))) b hb) c hc

-- the last two of three factors change places
pub mul_swap : (a b c : ℕ) → a < 256 → b < 256 → c < 256 → mul (mul a b) c ≡ mul (mul a c) b
mul_swap a b c ha hb hc = mul_assoc a b c ha hb hc ∙ ap (mul a) (mul_comm b c hb hc) ∙ sym (mul_assoc a c b ha hc hb)

-- ---- a product of bytes is a byte

-- a byte times a power
pub mul-lt : (x n : ℕ) → x < 256 → mul x (power n) < 256
mul-lt x n h =
    byte_ind (λ y. mul y (power n) < 256) (omega (arith, mul-zero_l (power n)))
    (λ m. omega (arith, mul_power m n, power-lt (m + n))) x h

pub mul_byte : (a b : ℕ) → a < 256 → b < 256 → mul a b < 256
mul_byte a b ha hb = byte_ind (λ y. mul a y < 256) (omega (arith, mul-zero-r a)) (λ n. mul-lt a n ha) b hb

-- ---- no zero divisors

-- only 0 times a power is 0
pub mul_nonzero : (x n : ℕ) → x < 256 → mul x (power n) ≡ 0 → x ≡ 0
mul_nonzero x n h =
    byte_ind (λ y. mul y (power n) ≡ 0 → y ≡ 0) (λ z. refl) (λ m z. absurd (power_nonzero (m + n) (sym (mul_power m n) ∙ z))) x h

-- only 0 times a byte but 0 is 0
pub mul_domain : (a b : ℕ) → a < 256 → b < 256 → (b ≡ 0 → ⊥) → mul a b ≡ 0 → a ≡ 0
mul_domain a b ha hb = byte_ind (λ y. (y ≡ 0 → ⊥) → mul a y ≡ 0 → a ≡ 0) (λ n z. absurd (n refl)) (λ i n z. mul_nonzero a i ha z) b hb

-- a factor but 0 cancels
pub mul_cancel_l : (a b c : ℕ) → a < 256 → b < 256 → c < 256 → (a ≡ 0 → ⊥) → mul a b ≡ mul a c → b ≡ c
mul_cancel_l a b c ha hb hc n e =
    let d = bit_xor b c in
    let hd : d < 256 = xor_lt 8 b c hb hc in
    xor_equal b c
    (mul_domain d a hd ha n
    (mul_comm d a hd ha ∙ mul_xor_r a b c ∙ ap (λ (x : ℕ). bit_xor x (mul a c)) e ∙ xor_self (mul a c)))

-- ---- inverses

-- the inverse of α^i is α^(255-i)
pub reciprocal : {a i : ℕ} → i < 255 → power i ≡ a → mul a (power ((255 - i) % 255)) ≡ 1
reciprocal {a} {i} h p =
    ap (λ (x : ℕ). mul x (power ((255 - i) % 255))) (sym p)
    ∙ ap (mul (power i)) (power-mod (255 - i))
    ∙ mul_power i (255 - i)
    ∙ (let e : i + (255 - i) ≡ 255 = omega arith in ap power e)
    ∙ power_255

-- every byte but 0 has one
pub inverse_exists : (a : ℕ) → a < 256 → (a ≡ 0 → ⊥) → (b : ℕ) × (b < 256) × (mul a b ≡ 1)
inverse_exists a h n = pick (byte_cases a h)
  where
    pick : (a ≡ 0) ⊎ ((i : ℕ) × (i < 255) × (power i ≡ a)) → (b : ℕ) × (b < 256) × (mul a b ≡ 1)
    pick (inl e) = absurd (n e)
    pick (inr l) = (power ((255 - l.0) % 255), power-lt ((255 - l.0) % 255), reciprocal l.1 l.2)

-- there is only one
pub inverse_one : (a b c : ℕ) → a < 256 → b < 256 → c < 256 → mul a b ≡ 1 → mul a c ≡ 1 → b ≡ c
inverse_one a b c ha hb hc p q = mul_cancel_l a b c ha hb hc nonzero (p ∙ sym q)
  where
    nonzero : a ≡ 0 → ⊥
    nonzero e = omega (arith, mul-zero_l b, ap (λ (x : ℕ). mul x b) e)
