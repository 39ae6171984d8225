-- How long the lists of bits and coefficients are, and that their elements are 0 or 1.
-- Assumes nothing.
use Rattle.std.specs.Prelude.{◌≡◌, refl, List, [], ◌∷◌, ◌++◌, ℕ, zero, suc, ◌*◌, ◌/◌, length}
use Rattle.std.proofs.Common.{sym, ap, subst, ◌∙◌, append_assoc, arith}
use Rattle.xor.specs.Xor.Group.{bit-lt}
use Rattle.bits.specs.Binary.Parts.{binary_append}
use Rattle.division.specs.Polynomial.{Coefficients}
use Rattle.division.specs.Polynomial.Lengths.{coefs_product}
use Rattle.division.specs.Division.Lengths as by
use Rattle.edc.specs.Bits.{bits_low_first, bits}
use Rattle.edc.specs.Polynomial.{divisor, factor₁, factor₂}
use Rattle.edc.specs.Polynomial.Divisor.{divisor-product}
use Rattle.edc.specs.Edc.{remainder}

-- ---- bits

pub coefs_bits_of : (n b : ℕ) → Coefficients (bits_low_first n b)
coefs_bits_of zero b = tt
coefs_bits_of (suc n) b = (bit-lt b, coefs_bits_of n (b / 2))

pub coefs_bits : (bytes : List ℕ) → Coefficients (bits bytes)
coefs_bits [] = tt
coefs_bits (b ∷ bytes) = binary_append (bits_low_first 8 b) (bits bytes) (coefs_bits_of 8 b) (coefs_bits bytes)

pub length_bits_of : (n b : ℕ) → length (bits_low_first n b) ≡ n
length_bits_of zero b = refl
length_bits_of (suc n) b = ap suc (length_bits_of n (b / 2))

pub length-bits : (bytes : List ℕ) → length (bits bytes) ≡ length bytes * 8
length-bits [] = refl
length-bits (b ∷ bytes) = omega (arith, length-bits bytes)

pub bits-append : (xs ys : List ℕ) → bits (xs ++ ys) ≡ bits xs ++ bits ys
bits-append [] ys = refl
bits-append (x ∷ xs) ys = ap (λ (l : List ℕ). bits_low_first 8 x ++ l) (bits-append xs ys) ∙ sym (append_assoc (bits_low_first 8 x) (bits xs) (bits ys))

-- ---- the divisor

pub coefs_divisor : Coefficients divisor
coefs_divisor = subst (λ (d : List ℕ). Coefficients d) (sym divisor-product) (coefs_product factor₁ factor₂)

pub length-divisor : length divisor ≡ 33
unfolding divisor
length-divisor = refl

-- ---- a remainder has 32 coefficients

pub coefs_remainder : (cs : List ℕ) → Coefficients (remainder cs)
unfolding remainder
coefs_remainder = by.coefs_remainder divisor

pub length-remainder : (cs : List ℕ) → length (remainder cs) ≡ 32
unfolding remainder
length-remainder = by.length-remainder divisor 32 length-divisor
