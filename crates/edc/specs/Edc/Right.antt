-- The EDC field: with the four bytes of `edc` the polynomial is divisible, and with no others.
-- Assumes nothing.
use Rattle.std.specs.Prelude.{◌≡◌, refl, List, ◌++◌, ℕ, zero, suc, ◌*◌, length, replicate, drop, take}
use Rattle.std.proofs.Common.{sym, ap, ap₂, ◌∙◌, arith, length-drop}
use Rattle.std.specs.Int.Bits.{bit_xor, xor_zero_l}
use Rattle.std.proofs.lemmas.List.{length-replicate}
use Rattle.outcome.specs.Bytes.{Bytes}
use Rattle.outcome.specs.Bytes.Kept.{bytes_nil, bytes_cons}
use Rattle.bits.specs.Binary.Parts.{binary_drop}
use Rattle.division.specs.Polynomial.{Coefficients}
use Rattle.division.specs.Polynomial.Lengths.{coefs_zeros}
use Rattle.division.specs.Division.{check}
use Rattle.division.specs.Division.Check.{length-check, coefs_check, check-right, check-one}
use Rattle.edc.specs.Bits.{bits, number_low_first, bytes_low_first}
use Rattle.edc.specs.Bits.Numbers.{number-zeros, first_byte_lt, bits_bytes_of, bytes_of_bits}
use Rattle.edc.specs.Polynomial.{divisor}
use Rattle.edc.specs.Polynomial.Lengths.{coefs_bits, length-bits, bits-append, coefs_divisor, length-divisor}
use Rattle.edc.specs.Edc.{remainder, edc, Divisible}
use Rattle.edc.specs.Edc.Division.{remainder_word}
use Rattle.edc.specs.Register.{steps}

-- ---- the register after 32 zeros more

pub zeros-number : (cs : List ℕ) → number_low_first (remainder (cs ++ replicate 32 0)) ≡ steps 32 (number_low_first (remainder cs))
zeros-number cs =
    remainder_word cs (replicate 32 0) (coefs_zeros 32) (length-replicate {A = ℕ} 32 0)
    ∙ ap (λ (x : ℕ). bit_xor x (steps 32 (number_low_first (remainder cs)))) (number-zeros 32)
    ∙ xor_zero_l (steps 32 (number_low_first (remainder cs)))

-- ---- the four bytes

pub length-edc : (bytes : List ℕ) → length (edc bytes) ≡ 4
unfolding edc
length-edc bytes = refl

bytes_bytes_of : (n : ℕ) (cs : List ℕ) → Coefficients cs → length cs ≡ n * 8 → Bytes (bytes_low_first n cs)
bytes_bytes_of zero cs h l = bytes_nil
bytes_bytes_of (suc n) cs h l =
    bytes_cons (number_low_first (take 8 cs)) (bytes_low_first n (drop 8 cs)) (first_byte_lt cs h (omega arith))
    (bytes_bytes_of n (drop 8 cs) (binary_drop 8 cs h) (omega (arith, length-drop 8 cs)))

check_coefs : (bytes : List ℕ) → Coefficients (check divisor (bits bytes))
check_coefs bytes = coefs_check 32 divisor length-divisor coefs_divisor (bits bytes)

check_long : (bytes : List ℕ) → length (check divisor (bits bytes)) ≡ 32
check_long bytes = length-check 32 divisor length-divisor coefs_divisor (bits bytes)

pub bytes_edc : (bytes : List ℕ) → Bytes (edc bytes)
unfolding edc
bytes_edc bytes = bytes_bytes_of 4 (check divisor (bits bytes)) (check_coefs bytes) (check_long bytes)

bits-edc : (bytes : List ℕ) → bits (edc bytes) ≡ check divisor (bits bytes)
unfolding edc
bits-edc bytes = bits_bytes_of 4 (check divisor (bits bytes)) (check_coefs bytes) (check_long bytes)

-- the EDC is right
pub edc-right : (bytes : List ℕ) → Divisible (bytes ++ edc bytes)
unfolding remainder
edc-right bytes =
    ap remainder (bits-append bytes (edc bytes) ∙ ap (λ (t : List ℕ). bits bytes ++ t) (bits-edc bytes))
    ∙ check-right 32 divisor length-divisor coefs_divisor (bits bytes)

-- and only the EDC is
pub edc-one : (bytes t : List ℕ) → length t ≡ 4 → Bytes t → Divisible (bytes ++ t) → t ≡ edc bytes
unfolding edc remainder
edc-one bytes t l h z =
    let same : bits t ≡ check divisor (bits bytes)
    = check-one 32 divisor length-divisor coefs_divisor (bits bytes) (bits t) (coefs_bits t) (omega (arith, length-bits t))
    (ap remainder (sym (bits-append bytes t)) ∙ z) in
    sym (bytes_of_bits t h) ∙ ap₂ bytes_low_first l same
