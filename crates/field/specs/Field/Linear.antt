-- Times α and the product are linear, on all numbers.
-- Assumes nothing.
use Rattle.std.specs.Prelude.{◌≡◌, refl, ℕ, zero, suc, ◌*◌, ◌/◌, ◌%◌, ◌<◌}
use Rattle.std.proofs.Common.{sym, ap, ap₂, ◌∙◌, zero-mul, one-mul, mul-zero, arith}
use Rattle.std.specs.Int.Bits.{bit_xor, xor_zero_r}
use Rattle.std.proofs.lemmas.Nat.{xor_shr}
use Rattle.xor.specs.Xor.Group.{xor_swap, xor_double, xor_half, xor_odd, digit_xor, differ_mul, bit-lt}
use Rattle.field.specs.Field.{times_alpha, mul_bits, mul}

-- ---- times α

pub times_alpha_xor : (a b : ℕ) → times_alpha (bit_xor a b) ≡ bit_xor (times_alpha a) (times_alpha b)
unfolding times_alpha
times_alpha_xor a b =
    ap₂ bit_xor (xor_double a b)
    (ap (λ (x : ℕ). x % 2 * 0x11D) (xor_shr a b 7)
    ∙ ap (λ (x : ℕ). x * 0x11D) (xor_odd (a / 128) (b / 128))
    ∙ differ_mul (a / 128 % 2) (b / 128 % 2) 0x11D (bit-lt (a / 128)) (bit-lt (b / 128)))
    ∙ xor_swap (a * 2) (b * 2) (a / 128 % 2 * 0x11D) (b / 128 % 2 * 0x11D)

pub times_alpha-zero : times_alpha 0 ≡ 0
unfolding times_alpha
times_alpha-zero = refl

times_alpha-digit : (x a : ℕ) → x < 2 → times_alpha (x * a) ≡ x * times_alpha a
times_alpha-digit zero a h = ap times_alpha (zero-mul a) ∙ times_alpha-zero ∙ sym (zero-mul (times_alpha a))
times_alpha-digit (suc zero) a h = ap times_alpha (one-mul a) ∙ sym (one-mul (times_alpha a))
times_alpha-digit (suc (suc x)) a h = omega arith

-- ---- the product with the n low bits of b

mul_bits_xor : (n a c b : ℕ) → mul_bits n (bit_xor a c) b ≡ bit_xor (mul_bits n a b) (mul_bits n c b)
unfolding mul_bits
mul_bits_xor zero a c b = refl
mul_bits_xor (suc n) a c b =
    ap₂ bit_xor (digit_xor (b % 2) a c (bit-lt b))
    (ap (λ (x : ℕ). mul_bits n x (b / 2)) (times_alpha_xor a c) ∙ mul_bits_xor n (times_alpha a) (times_alpha c) (b / 2))
    ∙ xor_swap (b % 2 * a) (b % 2 * c) (mul_bits n (times_alpha a) (b / 2)) (mul_bits n (times_alpha c) (b / 2))

mul_bits_xor_r : (n a b c : ℕ) → mul_bits n a (bit_xor b c) ≡ bit_xor (mul_bits n a b) (mul_bits n a c)
unfolding mul_bits
mul_bits_xor_r zero a b c = refl
mul_bits_xor_r (suc n) a b c =
    ap₂ bit_xor
    (ap (λ (x : ℕ). x * a) (xor_odd b c) ∙ differ_mul (b % 2) (c % 2) a (bit-lt b) (bit-lt c))
    (ap (mul_bits n (times_alpha a)) (xor_half b c) ∙ mul_bits_xor_r n (times_alpha a) (b / 2) (c / 2))
    ∙ xor_swap (b % 2 * a) (c % 2 * a) (mul_bits n (times_alpha a) (b / 2)) (mul_bits n (times_alpha a) (c / 2))

mul_bits_alpha : (n a b : ℕ) → mul_bits n (times_alpha a) b ≡ times_alpha (mul_bits n a b)
unfolding mul_bits
mul_bits_alpha zero a b = sym times_alpha-zero
mul_bits_alpha (suc n) a b =
    ap₂ bit_xor (sym (times_alpha-digit (b % 2) a (bit-lt b))) (mul_bits_alpha n (times_alpha a) (b / 2))
    ∙ sym (times_alpha_xor (b % 2 * a) (mul_bits n (times_alpha a) (b / 2)))

mul_bits-zero_l : (n b : ℕ) → mul_bits n 0 b ≡ 0
unfolding mul_bits
mul_bits-zero_l zero b = refl
mul_bits-zero_l (suc n) b =
    ap₂ bit_xor (mul-zero (b % 2)) (ap (λ (x : ℕ). mul_bits n x (b / 2)) times_alpha-zero ∙ mul_bits-zero_l n (b / 2))

mul_bits-zero-r : (n a : ℕ) → mul_bits n a 0 ≡ 0
unfolding mul_bits
mul_bits-zero-r zero a = refl
mul_bits-zero-r (suc n) a = ap₂ bit_xor (zero-mul a) (mul_bits-zero-r n (times_alpha a))

-- ---- the product

pub mul_xor : (a c b : ℕ) → mul (bit_xor a c) b ≡ bit_xor (mul a b) (mul c b)
unfolding mul
mul_xor = mul_bits_xor 8

pub mul_xor_r : (a b c : ℕ) → mul a (bit_xor b c) ≡ bit_xor (mul a b) (mul a c)
unfolding mul
mul_xor_r = mul_bits_xor_r 8

pub mul_alpha : (a b : ℕ) → mul (times_alpha a) b ≡ times_alpha (mul a b)
unfolding mul
mul_alpha = mul_bits_alpha 8

pub mul-zero_l : (b : ℕ) → mul 0 b ≡ 0
unfolding mul
mul-zero_l = mul_bits-zero_l 8

pub mul-zero-r : (a : ℕ) → mul a 0 ≡ 0
unfolding mul
mul-zero-r = mul_bits-zero-r 8

pub mul-one-r : (a : ℕ) → mul a 1 ≡ a
unfolding mul mul_bits
mul-one-r a = ap₂ bit_xor (one-mul a) (mul_bits-zero-r 7 (times_alpha a)) ∙ xor_zero_r a
