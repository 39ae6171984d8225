-- A word twisted by c, each byte times (its weight + c), which has one sum 0 less and, where c is the weight of a byte, that byte 0.
-- Assumes nothing.
use Rattle.std.specs.Prelude.{◌≡◌, refl, List, [], ◌∷◌, ℕ, suc, ◌*◌, ◌≤◌, ◌<◌, length, replicate}
use Rattle.std.proofs.Common.{sym, ap, ap₂, ◌∙◌, suc-mul, add_comm, arith}
use Rattle.std.proofs.Math.Decide.{ℕ_discrete}
use Rattle.std.specs.Int.Bits.{bit_xor}
use Rattle.std.proofs.lemmas.Nat.{xor_lt}
use Rattle.outcome.specs.Bytes.{Bytes}
use Rattle.outcome.specs.Bytes.Kept.{bytes_nil, bytes_cons}
use Rattle.xor.specs.Xor.Group.{xor_swap, xor_equal}
use Rattle.field.specs.Field.{power, mul}
use Rattle.field.specs.Field.Linear.{mul_xor, mul_xor_r, mul-zero_l}
use Rattle.field.specs.Field.Powers.{power-lt, power_inj}
use Rattle.field.specs.Field.Product.{mul_swap, mul_byte, mul_domain, mul-power-add}
use Rattle.codeword.specs.Code.{sum, weight}
use Rattle.codeword.specs.Code.Changes.{unlike_same, unlike_other, unlike_le}

abbrev pub zeros_like : List ℕ → List ℕ
zeros_like d = replicate (length d) 0

pub head_zero : (x : ℕ) (d : List ℕ) → x ≡ 0 → d ≡ zeros_like d → x ∷ d ≡ zeros_like (x ∷ d)
head_zero x d e f = ap₂ ◌∷◌ e f

-- ---- each byte times (its weight + c)

unfoldable pub twist : ℕ → List ℕ → List ℕ
twist c [] = []
twist c (b ∷ d) = mul b (bit_xor (power (length d)) c) ∷ twist c d

pub length-twist : (c : ℕ) (d : List ℕ) → length (twist c d) ≡ length d
unfolding twist
length-twist c [] = refl
length-twist c (b ∷ d) = ap suc (length-twist c d)

pub bytes_twist : (c : ℕ) (d : List ℕ) → c < 256 → Bytes d → Bytes (twist c d)
unfolding twist
bytes_twist c [] hc h = bytes_nil
bytes_twist c (b ∷ d) hc h =
    bytes_cons (mul b (bit_xor (power (length d)) c)) (twist c d)
    (mul_byte b (bit_xor (power (length d)) c) (h 0) (xor_lt 8 (power (length d)) c (power-lt (length d)) hc))
    (bytes_twist c d hc (λ i. h (suc i)))

pub weight-twist : (c : ℕ) (d : List ℕ) → weight (twist c d) ≤ weight d
unfolding twist weight
weight-twist c [] = omega arith
weight-twist c (b ∷ d) = go (ℕ_discrete b 0) (weight-twist c d)
  where
    go : Dec (b ≡ 0) → weight (twist c d) ≤ weight d → weight (twist c (b ∷ d)) ≤ weight (b ∷ d)
    go (yes s) r =
        omega (
          arith,
          unlike_same (mul b (bit_xor (power (length d)) c)) 0
              (ap (λ (x : ℕ). mul x (bit_xor (power (length d)) c)) s ∙ mul-zero_l (bit_xor (power (length d)) c)),
        )
    go (no s) r = omega (arith, unlike_other b 0 s, unlike_le (mul b (bit_xor (power (length d)) c)) 0)

pub sum-twist : (j c : ℕ) (d : List ℕ) → c < 256 → Bytes d → sum j (twist c d) ≡ bit_xor (sum (suc j) d) (mul (sum j d) c)
unfolding twist sum
sum-twist j c [] hc h = sym (mul-zero_l c)
sum-twist j c (b ∷ d) hc h =
    let n : ℕ = length d in
    ap₂ bit_xor
    (ap (λ (m : ℕ). mul (mul b (bit_xor (power n) c)) (power (j * m))) (length-twist c d)
    ∙ ap (λ (x : ℕ). mul x (power (j * n))) (mul_xor_r b (power n) c)
    ∙ mul_xor (mul b (power n)) (mul b c) (power (j * n))
    ∙ ap₂ bit_xor
    (mul-power-add b n (j * n) (h 0) ∙ ap (λ (m : ℕ). mul b (power m)) (add_comm n (j * n) ∙ sym (suc-mul j n)))
    (mul_swap b c (power (j * n)) (h 0) hc (power-lt (j * n))))
    (sum-twist j c d hc (λ i. h (suc i)))
    ∙ xor_swap (mul b (power (suc j * n))) (mul (mul b (power (j * n))) c) (sum (suc j) d) (mul (sum j d) c)
    ∙ ap (bit_xor (bit_xor (mul b (power (suc j * n))) (sum (suc j) d))) (sym (mul_xor (mul b (power (j * n))) (sum j d) c))

-- where the weights differ from c, only zeros become zeros
pub untwist : (n : ℕ) (d : List ℕ) → n < 255 → length d ≤ n → Bytes d → twist (power n) d ≡ zeros_like d → d ≡ zeros_like d
unfolding twist
untwist n [] hn l h z = refl
untwist n (b ∷ d) hn l h z =
    let p : mul b (bit_xor (power (length d)) (power n)) ≡ 0 = cc in
    let q : twist (power n) d ≡ zeros_like d = cc in
    head_zero b d
    (mul_domain b (bit_xor (power (length d)) (power n)) (h 0) (xor_lt 8 (power (length d)) (power n) (power-lt (length d)) (power-lt n))
    (λ e. other (power_inj (length d) n (omega arith) hn (xor_equal (power (length d)) (power n) e))) p)
    (untwist n d hn (omega arith) (λ i. h (suc i)) q)
  where
    other : length d ≡ n → ⊥
    other e = omega arith
