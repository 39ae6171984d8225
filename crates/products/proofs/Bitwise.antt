-- The product bit by bit: what is summed so far, plus what the bits that are left still give, stays the product.
-- Assumes nothing.
use mathlib.Core.Path.{◌≡◌, refl, sym, ap, ◌∙◌}
use Prim.Native.Nat.{ℕ, suc, ◌*◌, ◌/◌, ◌%◌, ◌<◌}
use lib.Bits.{bit_xor, xor_zero_r}
use Rattle.xor.specs.Xor.Group.{xor_assoc}
use Rattle.field.specs.Field.{times_alpha, mul_bits, mul}
use Rattle.field.specs.Field.Powers.{times_alpha-lt}

-- of the product m, s is summed; n bits of the second factor are left in b, and a is the first one times as many α as are done
pub record Summing (m n a b s : ℕ) : Type 0 where
  pub byte : a < 256
  pub is : bit_xor s (mul_bits n a b) ≡ m

pub summing_none : (a b : ℕ) → a < 256 → Summing (mul a b) 8 a b 0
unfolding mul
summing_none a b h = record { byte = h; is = refl }

module _ {m n a b s : ℕ} (f : Summing m n a b s) where
  pub summing_more : (k t : ℕ) → n ≡ suc k → t ≡ times_alpha a → Summing m k t (b / 2) (bit_xor s (b % 2 * a))
  unfolding mul_bits
  summing_more k t e q =
      rw q (record {
        byte = times_alpha-lt a f.byte;
        is = xor_assoc s (b % 2 * a) (mul_bits k (times_alpha a) (b / 2)) ∙ ap (λ (i : ℕ). bit_xor s (mul_bits i a b)) (sym e) ∙ f.is;
      })

  pub summing_all : n ≡ 0 → s ≡ m
  unfolding mul_bits
  summing_all z = sym (xor_zero_r s) ∙ ap (λ (k : ℕ). bit_xor s (mul_bits k a b)) (sym z) ∙ f.is
