-- The field of 256 elements by x^8+x^4+x^3+x^2+1 (Annex A.3, Annex C.7): an element is a byte, α is (02), and the sum is `bit_xor`.
-- Assumes nothing.
use Rattle.std.specs.Prelude.{ℕ, zero, suc, ◌*◌, ◌/◌, ◌%◌}
use Rattle.std.specs.Int.Bits.{bit_xor}
pub mod Linear
pub mod Exponents
pub mod Powers
pub mod Product

-- times α: double; where bit 7 was set, take the polynomial, (11D), off
unfoldable pub times_alpha : ℕ → ℕ
times_alpha x = bit_xor (x * 2) (x / 128 % 2 * 0x11D)

-- α^n
unfoldable pub power : ℕ → ℕ
power zero = 1
power (suc n) = times_alpha (power n)

-- a times the n low bits of b: a where bit 0 is set, and α times a times the bits above it
unfoldable pub mul_bits : ℕ → ℕ → ℕ → ℕ
mul_bits zero a b = 0
mul_bits (suc n) a b = bit_xor (b % 2 * a) (mul_bits n (times_alpha a) (b / 2))

-- the product of two bytes
unfoldable pub mul : ℕ → ℕ → ℕ
mul a b = mul_bits 8 a b
