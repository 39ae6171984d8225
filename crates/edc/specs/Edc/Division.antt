-- The division of lists and the register agree: a line of the one is a step of the other.
-- Assumes nothing.
use Rattle.std.specs.Prelude.{◌≡◌, List, [], ◌∷◌, ◌++◌, length, drop}
use Rattle.std.proofs.Math.Path.{refl, ap, ap₂, subst}
use Rattle.std.proofs.Common.{sym, ◌∙◌}
use Prim.Native.Nat.{ℕ, ◌+◌, ◌*◌, ◌/◌, ◌%◌, ◌^◌, ◌<◌}
use native.Mathlib.Omega.{arith}
use Rattle.std.specs.Int.Bits.{bit_xor, xor_block, xor_zero_r}
use Rattle.std.proofs.Math.ListN.{length-append}
use Rattle.edc.specs.Bits.{number_low_first}
use Rattle.bits.specs.Binary.Parts.{binary_append, binary_drop}
use Rattle.division.specs.Polynomial.{Coefficients, plus, scaled}
use Rattle.division.specs.Polynomial.Lengths.{coefs_scaled, length-scaled}
use Rattle.division.specs.Division.{brought, divided}
use Rattle.division.specs.Division.Lengths as by
use Rattle.edc.specs.Polynomial.{divisor}
use Rattle.edc.specs.Polynomial.Lengths.{coefs_divisor, coefs_remainder, length-divisor, length-remainder}
use Rattle.edc.specs.Edc.{remainder}
use Rattle.edc.specs.Bits.Numbers.{number_append, number_lt, number-plus, number-scaled}
use Rattle.edc.specs.Register.{feedback, step, steps}
use Rattle.edc.specs.Register.Steps.{steps_split}

-- ---- one line of the division is one step of the register

low : List ℕ
low = drop 1 divisor

coefs_low : Coefficients low
unfolding low
coefs_low = binary_drop 1 divisor coefs_divisor

length_low : length low ≡ 32
unfolding low divisor
length_low = refl

pub number_low : number_low_first (drop 1 divisor) ≡ feedback
unfolding divisor number_low_first
number_low = refl

number-one : (c : ℕ) → number_low_first (c ∷ []) ≡ c
unfolding number_low_first
number-one c = omega arith

module _ (t c : ℕ) (rest : List ℕ) (ht : t < 2) (hc : c < 2) (h : Coefficients rest) (l : length rest ≡ 31) where
  brought_is : brought divisor (t ∷ rest) c ≡ plus (rest ++ (c ∷ [])) (scaled t low)
  unfolding brought low divisor
  brought_is = refl

  number-brought : number_low_first (brought divisor (t ∷ rest) c) ≡ bit_xor (number_low_first rest + c * 2 ^ 31) (t * feedback)
  unfolding low
  number-brought =
      ap number_low_first brought_is
      ∙ number-plus (rest ++ (c ∷ [])) (scaled t low) (binary_append rest (c ∷ []) h (hc, tt)) (coefs_scaled t low ht coefs_low)
      (omega (arith, length-append rest (c ∷ []), length-scaled t low, length_low))
      ∙ ap₂ bit_xor
      (number_append rest (c ∷ []) ∙ ap₂ (λ (x n : ℕ). number_low_first rest + x * 2 ^ n) (number-one c) l)
      (number-scaled t low ∙ ap (λ (x : ℕ). t * x) number_low)

  -- n is the number of the coefficients after c
  step-brought : (n : ℕ) → step (number_low_first (t ∷ rest) + (c + n * 2) * 2 ^ 32) ≡ number_low_first (brought divisor (t ∷ rest) c) + n * 2 ^ 32
  unfolding step number_low_first
  step-brought n =
      let m : ℕ = number_low_first rest in
      let x : ℕ = m + c * 2 ^ 31 in
      let y : ℕ = t * feedback in
      let all : ℕ = t + m * 2 + (c + n * 2) * 2 ^ 32 in
      let k : m < 2 ^ 31 = subst (λ (j : ℕ). m < 2 ^ j) l (number_lt rest h) in
      let p : all / 2 ≡ n * 2 ^ 32 + x = omega arith in
      let q : all % 2 ≡ t = omega arith in
      let z : y ≡ 0 * 2 ^ 32 + y = omega arith in
      let b : bit_xor (n * 2 ^ 32 + x) (0 * 2 ^ 32 + y) ≡ bit_xor n 0 * 2 ^ 32 + bit_xor x y
      = xor_block 32 n 0 x y (omega arith) (omega arith) in
      ap₂ (λ (u v : ℕ). bit_xor u (v * feedback)) p q
      ∙ ap (bit_xor (n * 2 ^ 32 + x)) z
      ∙ omega (arith, b, xor_zero_r n, number-brought)

-- ---- the division is so many steps

pub divided-steps : (r cs : List ℕ) → Coefficients r → Coefficients cs → length r ≡ 32
    → number_low_first (divided divisor r cs) ≡ steps (length cs) (number_low_first r + number_low_first cs * 2 ^ 32)
unfolding divided steps number_low_first
divided-steps r [] h k l = omega arith
divided-steps [] (c ∷ cs) h k l = absurd (omega arith)
divided-steps (t ∷ r) (c ∷ cs) h k l =
    divided-steps (brought divisor (t ∷ r) c) cs (by.coefs_brought divisor (t ∷ r) c) k.1 (by.length-brought divisor 32 length-divisor (t ∷ r) c l)
    ∙ ap (steps (length cs)) (sym (step-brought t c r h.0 k.0 h.1 (omega arith) (number_low_first cs)))

-- coefficients ds more: so many steps more
pub remainder-append : (cs ds : List ℕ) → Coefficients ds
    → number_low_first (remainder (cs ++ ds)) ≡ steps (length ds) (number_low_first (remainder cs) + number_low_first ds * 2 ^ 32)
unfolding remainder
remainder-append cs ds k =
    ap number_low_first (by.remainder-append divisor cs ds) ∙ divided-steps (remainder cs) ds (coefs_remainder cs) k (length-remainder cs)

pub remainder-lt : (cs : List ℕ) → number_low_first (remainder cs) < 2 ^ 32
remainder-lt cs = subst (λ (n : ℕ). number_low_first (remainder cs) < 2 ^ n) (length-remainder cs) (number_lt (remainder cs) (coefs_remainder cs))

-- 32 more are added as they stand to what 32 steps make of the remainder
pub remainder_word : (cs ds : List ℕ) → Coefficients ds → length ds ≡ 32
    → number_low_first (remainder (cs ++ ds)) ≡ bit_xor (number_low_first ds) (steps 32 (number_low_first (remainder cs)))
remainder_word cs ds k l =
    let r : ℕ = number_low_first (remainder cs) in
    let e : r + number_low_first ds * 2 ^ 32 ≡ number_low_first ds * 2 ^ 32 + r = omega arith in
    remainder-append cs ds k ∙ ap₂ steps l e ∙ steps_split 32 (number_low_first ds) r (remainder-lt cs)
