-- The test for a remainder 0, on the list and on the number.
-- Assumes nothing.
use Rattle.std.specs.Prelude.{◌≡◌, refl, Bool, true, ◌&&◌, List, [], ◌∷◌, ℕ, zero, suc, ◌+◌, ◌*◌, eqb}
use Rattle.std.proofs.Common.{sym, ap, ◌∙◌, arith, ne_eqb}
use Rattle.std.proofs.Math.Dec.{eqb-suc-zero}
use Rattle.division.specs.Polynomial.Zeros.{zero_is, is_zero_lem}
use Rattle.edc.specs.Bits.{bits, number_low_first}
use Rattle.edc.specs.Edc.{remainder, is_zero, Divisible}
use Rattle.edc.specs.Polynomial.Lengths.{length-remainder}

-- what the test of a remainder says
pub test_divisible : (bytes : List ℕ) → is_zero (remainder (bits bytes)) ≡ true → Divisible bytes
test_divisible bytes = zero_is 32 (remainder (bits bytes)) (length-remainder (bits bytes))

pub divisible_test : (bytes : List ℕ) → Divisible bytes → is_zero (remainder (bits bytes)) ≡ true
divisible_test bytes = is_zero_lem 32 (remainder (bits bytes))

-- the same test on the number
pub zero_number : (cs : List ℕ) → is_zero cs ≡ eqb (number_low_first cs) 0
unfolding number_low_first
zero_number [] = refl
zero_number (zero ∷ cs) = zero_number cs ∙ twice (number_low_first cs)
  where
    twice : (n : ℕ) → eqb n 0 ≡ eqb (0 + n * 2) 0
    twice zero = refl
    twice (suc n) = eqb-suc-zero n ∙ sym (ne_eqb (0 + suc n * 2) 0 (λ e. omega arith))
zero_number (suc c ∷ cs) =
    ap (λ (b : Bool). b && is_zero cs) (eqb-suc-zero c) ∙ sym (ne_eqb (suc c + number_low_first cs * 2) 0 (λ e. omega arith))
