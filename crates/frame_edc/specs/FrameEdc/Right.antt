-- The EDC field of a Data Frame: with the four bytes of `edc` the bytes are divisible, and with no others.
-- Assumes nothing.
use Rattle.std.specs.Prelude.{◌≡◌, refl, true, List, ◌++◌, ℕ, ◌≤◌, length}
use Rattle.std.proofs.Common.{sym, ap, ◌∙◌, arith}
use Rattle.outcome.specs.Bytes.{Bytes}
use Rattle.bits.specs.Bits.{unpack}
use Rattle.bits.proofs.Bits.Packed.{length-unpack, unpack-append, packed, unpack-pack, length-pack}
use Rattle.division.specs.Polynomial.{Coefficients, is_zero}
use Rattle.bits.specs.Binary.Parts.{binary_unpack}
use Rattle.division.specs.Polynomial.Bytes.{bytes_pack}
use Rattle.division.specs.Polynomial.Lengths.{coefs_powers}
use Rattle.division.specs.Polynomial.Zeros.{zero_is, is_zero_lem}
use Rattle.division.specs.Division as whole
use Rattle.division.specs.Division.{check}
use Rattle.division.specs.Division.Lengths as by
use Rattle.division.specs.Division.Check.{length-check, coefs_check, check-right, check-one}
use Rattle.division.specs.Multiple.{Multiple}
use Rattle.division.specs.Multiple.Zero.{zero-product, product-zero}
use Rattle.frame_edc.specs.FrameEdc.{powers_of_g, divisor, remainder, edc, Divisible}

pub length-divisor : length divisor ≡ 33
unfolding divisor
length-divisor = refl

pub coefs_divisor : Coefficients divisor
unfolding divisor
coefs_divisor = coefs_powers 33 powers_of_g

pub length-remainder : (bytes : List ℕ) → length (remainder bytes) ≡ 32
unfolding remainder
length-remainder bytes = by.length-remainder divisor 32 length-divisor (unpack bytes)

pub coefs_remainder : (bytes : List ℕ) → Coefficients (remainder bytes)
unfolding remainder
coefs_remainder bytes = by.coefs_remainder divisor (unpack bytes)

-- what the test of a remainder says
pub test_divisible : (bytes : List ℕ) → is_zero (remainder bytes) ≡ true → Divisible bytes
test_divisible bytes = zero_is 32 (remainder bytes) (length-remainder bytes)

pub divisible_test : (bytes : List ℕ) → Divisible bytes → is_zero (remainder bytes) ≡ true
divisible_test bytes = is_zero_lem 32 (remainder bytes)

-- ---- the four bytes

pub length-edc : (bytes : List ℕ) → length (edc bytes) ≡ 4
unfolding edc
length-edc bytes = length-pack 4 (check divisor (unpack bytes))

check_coefs : (bytes : List ℕ) → Coefficients (check divisor (unpack bytes))
check_coefs bytes = coefs_check 32 divisor length-divisor coefs_divisor (unpack bytes)

check_long : (bytes : List ℕ) → length (check divisor (unpack bytes)) ≡ 32
check_long bytes = length-check 32 divisor length-divisor coefs_divisor (unpack bytes)

pub bytes_edc : (bytes : List ℕ) → Bytes (edc bytes)
unfolding edc
bytes_edc bytes = bytes_pack 4 (check divisor (unpack bytes)) (check_coefs bytes) (check_long bytes)

-- the EDC is right
pub edc-right : (bytes : List ℕ) → Divisible (bytes ++ edc bytes)
unfolding remainder edc
edc-right bytes =
    ap (whole.remainder divisor) (unpack-append bytes (edc bytes) ∙ ap (λ (t : List ℕ). unpack bytes ++ t) (unpack-pack 4 (check divisor (unpack bytes)) (check_coefs bytes) (check_long bytes)))
    ∙ check-right 32 divisor length-divisor coefs_divisor (unpack bytes)

-- and only the EDC is
pub edc-one : (bytes t : List ℕ) → length t ≡ 4 → Bytes t → Divisible (bytes ++ t) → t ≡ edc bytes
unfolding edc remainder
edc-one bytes t l h z =
    packed 4 t (check divisor (unpack bytes)) h l
    (check-one 32 divisor length-divisor coefs_divisor (unpack bytes) (unpack t) (binary_unpack t) (omega (arith, length-unpack t))
    (ap (whole.remainder divisor) (sym (unpack-append bytes t)) ∙ z))

-- ---- four or more bytes are divisible exactly where their polynomial is a multiple of G(x)

pub divisible_multiple : (bytes : List ℕ) → 4 ≤ length bytes → Divisible bytes → Multiple divisor (unpack bytes)
unfolding remainder divisor
divisible_multiple bytes l =
    zero-product 32 divisor (omega arith) length-divisor coefs_divisor refl (unpack bytes) (binary_unpack bytes) (omega (arith, length-unpack bytes))

pub multiple_divisible : (bytes : List ℕ) → Multiple divisor (unpack bytes) → Divisible bytes
unfolding remainder divisor
multiple_divisible bytes = product-zero 32 divisor (omega arith) length-divisor coefs_divisor refl (unpack bytes)
