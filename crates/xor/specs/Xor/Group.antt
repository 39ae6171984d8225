-- The sum modulo 2, bit by bit: `bit_xor` on all numbers is a group in which each element is its own inverse.
-- The field, EDC, scrambling and parity all add this way; here are the laws that lib.Bits lacks.
-- Assumes nothing.
use Rattle.std.specs.Prelude.{◌≡◌, refl, ℕ, zero, suc, ◌+◌, ◌*◌, ◌/◌, ◌%◌, ◌<◌}
use Rattle.std.proofs.Common.{sym, ap, ap₂, ◌∙◌, mod-lt, zero-lt-suc, zero-mul, one-mul, add-zero, arith}
use Rattle.std.proofs.Math.Arith.{bin_ind, digits_mod}
use Rattle.std.specs.Int.Bits.{bit_xor, differ, xor_step, xor_self, xor_zero_r}
use Rattle.std.proofs.lemmas.Nat.{xor_shr, xor_comm, xor_block}

two_pos : zero < 2
two_pos = zero-lt-suc 1

-- ---- digits

pub bit-lt : (n : ℕ) → n % 2 < 2
bit-lt n = mod-lt n two_pos

pub differ_lt : (x y : ℕ) → x < 2 → y < 2 → differ x y < 2
differ_lt zero y hx hy = hy
differ_lt (suc zero) zero hx hy = hx
differ_lt (suc zero) (suc zero) hx hy = two_pos
differ_lt (suc zero) (suc (suc y)) hx hy = omega arith
differ_lt (suc (suc x)) y hx hy = omega arith

differ_assoc : (x y z : ℕ) → x < 2 → y < 2 → z < 2 → differ (differ x y) z ≡ differ x (differ y z)
differ_assoc zero y z hx hy hz = refl
differ_assoc (suc zero) zero z hx hy hz = refl
differ_assoc (suc zero) (suc zero) zero hx hy hz = refl
differ_assoc (suc zero) (suc zero) (suc zero) hx hy hz = refl
differ_assoc (suc zero) (suc zero) (suc (suc z)) hx hy hz = omega arith
differ_assoc (suc zero) (suc (suc y)) z hx hy hz = omega arith
differ_assoc (suc (suc x)) y z hx hy hz = omega arith

pub xor_half : (a b : ℕ) → bit_xor a b / 2 ≡ bit_xor (a / 2) (b / 2)
xor_half a b = xor_shr a b 1

pub xor_odd : (a b : ℕ) → bit_xor a b % 2 ≡ differ (a % 2) (b % 2)
xor_odd a b =
    ap (λ (x : ℕ). x % 2) (xor_step a b)
    ∙ digits_mod (bit_xor (a / 2) (b / 2)) (differ_lt (a % 2) (b % 2) (bit-lt a) (bit-lt b))

-- ---- the group

pub xor_assoc : (a b c : ℕ) → bit_xor (bit_xor a b) c ≡ bit_xor a (bit_xor b c)
xor_assoc a =
    bin_ind (λ (n : ℕ). (b c : ℕ) → bit_xor (bit_xor n b) c ≡ bit_xor n (bit_xor b c)) (λ b c. refl)
    (λ n ih b c.
    xor_step (bit_xor n b) c
    ∙ ap₂ (λ (x y : ℕ). bit_xor x (c / 2) * 2 + differ y (c % 2)) (xor_half n b) (xor_odd n b)
    ∙ ap₂ (λ (x y : ℕ). x * 2 + y) (ih (b / 2) (c / 2)) (differ_assoc (n % 2) (b % 2) (c % 2) (bit-lt n) (bit-lt b) (bit-lt c))
    ∙ ap₂ (λ (x y : ℕ). bit_xor (n / 2) x * 2 + differ (n % 2) y) (sym (xor_half b c)) (sym (xor_odd b c))
    ∙ sym (xor_step n (bit_xor b c))) a

-- what is added twice is gone
pub xor_cancel : (a b : ℕ) → bit_xor a (bit_xor a b) ≡ b
xor_cancel a b = sym (xor_assoc a a b) ∙ ap (λ (x : ℕ). bit_xor x b) (xor_self a)

pub xor_twice : (a b : ℕ) → bit_xor (bit_xor a b) b ≡ a
xor_twice a b = xor_assoc a b b ∙ ap (bit_xor a) (xor_self b) ∙ xor_zero_r a

-- two numbers are equal where their sum is 0
pub xor_equal : (a b : ℕ) → bit_xor a b ≡ 0 → a ≡ b
xor_equal a b e = sym (xor_zero_r a) ∙ ap (bit_xor a) (sym e) ∙ xor_cancel a b

pub xor_left_comm : (a b c : ℕ) → bit_xor a (bit_xor b c) ≡ bit_xor b (bit_xor a c)
xor_left_comm a b c = sym (xor_assoc a b c) ∙ ap (λ (x : ℕ). bit_xor x c) (xor_comm a b) ∙ xor_assoc b a c

pub xor_right_comm : (a b c : ℕ) → bit_xor (bit_xor a b) c ≡ bit_xor (bit_xor a c) b
xor_right_comm a b c = xor_assoc a b c ∙ ap (bit_xor a) (xor_comm b c) ∙ sym (xor_assoc a c b)

-- the middle two of four change places
pub xor_swap : (a b c d : ℕ) → bit_xor (bit_xor a b) (bit_xor c d) ≡ bit_xor (bit_xor a c) (bit_xor b d)
xor_swap a b c d = xor_assoc a b (bit_xor c d) ∙ ap (bit_xor a) (xor_left_comm b c d) ∙ sym (xor_assoc a c (bit_xor b d))

-- ---- doubling, and a digit times a number, are linear

pub xor_double : (a b : ℕ) → bit_xor a b * 2 ≡ bit_xor (a * 2) (b * 2)
xor_double a b =
    sym (add-zero (bit_xor a b * 2))
    ∙ sym (xor_block 1 a b 0 0 two_pos two_pos)
    ∙ ap₂ bit_xor (add-zero (a * 2)) (add-zero (b * 2))

pub digit_xor : (x a b : ℕ) → x < 2 → x * bit_xor a b ≡ bit_xor (x * a) (x * b)
digit_xor zero a b h = zero-mul (bit_xor a b) ∙ sym (ap₂ bit_xor (zero-mul a) (zero-mul b))
digit_xor (suc zero) a b h = one-mul (bit_xor a b) ∙ sym (ap₂ bit_xor (one-mul a) (one-mul b))
digit_xor (suc (suc x)) a b h = omega arith

pub differ_mul : (x y a : ℕ) → x < 2 → y < 2 → differ x y * a ≡ bit_xor (x * a) (y * a)
differ_mul zero y a hx hy = sym (ap (λ (z : ℕ). bit_xor z (y * a)) (zero-mul a))
differ_mul (suc zero) zero a hx hy = sym (ap (bit_xor (1 * a)) (zero-mul a) ∙ xor_zero_r (1 * a))
differ_mul (suc zero) (suc zero) a hx hy = zero-mul a ∙ sym (xor_self (1 * a))
differ_mul (suc zero) (suc (suc y)) a hx hy = omega arith
differ_mul (suc (suc x)) y a hx hy = omega arith
