-- Polynomials as numbers, the highest power the most significant bit: to add modulo 2 is `bit_xor`.
-- Assumes nothing.
use Rattle.std.specs.Prelude.{◌≡◌, refl, List, [], ◌∷◌, ℕ, zero, suc, ◌+◌, ◌*◌, ◌%◌, ◌^◌, ◌<◌, length, replicate}
use Rattle.std.proofs.Common.{sym, ap, ap₂, subst, ◌∙◌, suc-ne-zero, arith}
use Rattle.std.proofs.Math.Nat.{suc_inj}
use Rattle.std.specs.Int.Bits.{bit_xor}
use Rattle.std.proofs.lemmas.Nat.{xor_block}
use Rattle.bits.specs.Bits.{number}
use Rattle.bits.specs.Bits.Numbers.{number_shift, number_lt}
use Rattle.division.specs.Polynomial.{Coefficients, plus}
use Rattle.division.specs.Polynomial.Lengths.{length-plus}

pub number-zeros : (n : ℕ) → number 0 (replicate n 0) ≡ 0
number-zeros zero = refl
number-zeros (suc n) = number-zeros n

xor_bits : (x y : ℕ) → x < 2 → y < 2 → (x + y) % 2 ≡ bit_xor x y
xor_bits zero zero h k = refl
xor_bits zero (suc zero) h k = refl
xor_bits zero (suc (suc y)) h k = omega arith
xor_bits (suc zero) zero h k = refl
xor_bits (suc zero) (suc zero) h k = refl
xor_bits (suc zero) (suc (suc y)) h k = omega arith
xor_bits (suc (suc x)) y h k = omega arith

first_of : (b : ℕ) (bs : List ℕ) → number 0 (b ∷ bs) ≡ b * 2 ^ length bs + number 0 bs
first_of b bs = let e : 2 * 0 + b ≡ b = omega arith in number_shift bs (2 * 0 + b) ∙ ap (λ (x : ℕ). x * 2 ^ length bs + number 0 bs) e

pub number-plus : (cs ds : List ℕ) → Coefficients cs → Coefficients ds → length cs ≡ length ds
    → number 0 (plus cs ds) ≡ bit_xor (number 0 cs) (number 0 ds)
number-plus [] [] h k e = refl
number-plus [] (d ∷ ds) h k e = absurd (suc-ne-zero (length ds) (sym e))
number-plus (c ∷ cs) [] h k e = absurd (suc-ne-zero (length cs) e)
number-plus (c ∷ cs) (d ∷ ds) h k e =
    let n : ℕ = length cs in
    let l : length cs ≡ length ds = suc_inj e in
    first_of ((c + d) % 2) (plus cs ds)
    ∙ ap₂ (λ (x : ℕ) (m : ℕ). x * 2 ^ m + number 0 (plus cs ds)) (xor_bits c d h.0 k.0) (length-plus cs ds l)
    ∙ ap (λ (x : ℕ). bit_xor c d * 2 ^ n + x) (number-plus cs ds h.1 k.1 l)
    ∙ sym (xor_block n c d (number 0 cs) (number 0 ds) (number_lt cs h.1) (subst (λ (m : ℕ). number 0 ds < 2 ^ m) (sym l) (number_lt ds k.1)))
    ∙ sym (ap₂ bit_xor (first_of c cs) (first_of d ds ∙ ap (λ (m : ℕ). d * 2 ^ m + number 0 ds) (sym l)))
