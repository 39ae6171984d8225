-- The distance of the codes: two codewords of J sums, of at most 255 bytes, that differ in at most J places are equal.
-- A word with J sums 0 and at most J bytes not 0 is all zeros: take the first byte that is not 0, with weight c. The rest, each byte
-- times (its weight + c), has J - 1 sums 0 and a byte less that is not 0, so it is 0; so the rest is, and then the first byte is.
-- Assumes nothing.
use Rattle.std.specs.Prelude.{◌≡◌, refl, cond, List, [], ◌∷◌, ℕ, zero, suc, ◌+◌, ◌*◌, ◌≤◌, ◌<◌, eqb, length, replicate}
use Rattle.std.proofs.Common.{sym, ap, ap₂, ◌∙◌, suc-mul, arith}
use Rattle.std.proofs.Math.Decide.{ℕ_discrete}
use Rattle.std.specs.Int.Bits.{bit_xor, xor_self}
use Rattle.outcome.specs.Bytes.{Bytes}
use Rattle.xor.specs.Xor.Group.{xor_equal}
use Rattle.xor.specs.Added.{added}
use Rattle.xor.specs.Added.Places.{length-added, bytes_added}
use Rattle.field.specs.Field.{power, mul}
use Rattle.field.specs.Field.Linear.{mul-zero_l}
use Rattle.field.specs.Field.Powers.{power-lt}
use Rattle.field.specs.Field.Product.{mul-power-add}
use Rattle.codeword.specs.Code.{sum, Codeword, changes, weight}
use Rattle.codeword.specs.Code.Sums.{times_none, sum_added}
use Rattle.codeword.specs.Code.Changes.{unlike_same, unlike_other, unlike_le}
use Rattle.codeword.specs.Code.OneSumLess.{zeros_like, head_zero, twist, length-twist, bytes_twist, weight-twist, sum-twist, untwist}

-- ---- the law

weight-zero : (d : List ℕ) → weight d ≤ 0 → d ≡ zeros_like d
unfolding weight
weight-zero [] h = refl
weight-zero (x ∷ d) h = go (ℕ_discrete x 0) (weight-zero d)
  where
    go : Dec (x ≡ 0) → (weight d ≤ 0 → d ≡ zeros_like d) → x ∷ d ≡ zeros_like (x ∷ d)
    go (yes e) r = head_zero x d e (r (omega (arith, unlike_same x 0 e)))
    go (no n) r = absurd (omega (arith, unlike_other x 0 n))

pub sum_zeros : (j n : ℕ) → sum j (replicate n 0) ≡ 0
unfolding sum
sum_zeros j zero = refl
sum_zeros j (suc n) = ap₂ bit_xor (mul-zero_l (power (j * length (replicate n 0)))) (sum_zeros j n)

abbrev Light : ℕ → Type 0
Light J = (d : List ℕ) → Bytes d → length d ≤ 255 → weight d ≤ J → Codeword J d → d ≡ zeros_like d

lighter : (J : ℕ) → Light J → Light (suc J)
unfolding sum weight
lighter J ih [] h l w s = refl
lighter J ih (x ∷ d) h l w s = go (ℕ_discrete x 0) (lighter J ih d (λ i. h (suc i)) (omega arith))
  where
    n : ℕ
    n = length d

    rest : (j : ℕ) → j < suc J → sum j d ≡ mul x (power (j * length d))
    rest j hj = sym (xor_equal (mul x (power (j * length d))) (sum j d) (s j hj))

    twisted : Codeword J (twist (power (length d)) d)
    twisted j hj =
        sum-twist j (power (length d)) d (power-lt (length d)) (λ i. h (suc i))
        ∙ ap₂ bit_xor
        (rest (suc j) (omega arith))
        (ap (λ (y : ℕ). mul y (power (length d))) (rest j (omega arith))
        ∙ mul-power-add x (j * length d) (length d) (h 0) ∙ ap (λ (m : ℕ). mul x (power m)) (sym (suc-mul j (length d))))
        ∙ xor_self (mul x (power (suc j * length d)))

    never : (x ≡ 0 → ⊥) → ⊥
    never nz =
        let t : List ℕ = twist (power (length d)) d in
        let z : t ≡ zeros_like t =
        ih t (bytes_twist (power (length d)) d (power-lt (length d)) (λ i. h (suc i)))
        (omega (arith, length-twist (power (length d)) d))
        (omega (arith, weight-twist (power (length d)) d, unlike_other x 0 nz)) twisted in
        let y : d ≡ zeros_like d =
        untwist (length d) d (omega arith) (omega arith) (λ i. h (suc i))
        (z ∙ ap (λ (k : ℕ). replicate k 0) (length-twist (power (length d)) d)) in
        nz (sym (times_none x (length d)) ∙ sym (rest 0 (omega arith)) ∙ ap (sum 0) y ∙ sum_zeros 0 (length d))

    go : Dec (x ≡ 0) → (weight d ≤ suc J → Codeword (suc J) d → d ≡ zeros_like d) → x ∷ d ≡ zeros_like (x ∷ d)
    go (yes e) r =
        head_zero x d e
        (r (omega (arith, unlike_same x 0 e))
        (λ j hj. rest j hj ∙ ap (λ (y : ℕ). mul y (power (j * length d))) e ∙ mul-zero_l (power (j * length d))))
    go (no nz) r = absurd (never nz)

-- a word of at most 255 bytes with J sums 0 and at most J bytes not 0 is all zeros
pub distance : (J : ℕ) (d : List ℕ) → Bytes d → length d ≤ 255 → weight d ≤ J → Codeword J d → d ≡ replicate (length d) 0
distance zero = λ d h l w s. weight-zero d w
distance (suc J) = lighter J (distance J)

-- ---- two words

weight-added : (a b : List ℕ) → length a ≡ length b → weight (added a b) ≤ changes a b
unfolding changes weight
weight-added [] b e = omega arith
weight-added (x ∷ a) [] e = absurd (omega arith)
weight-added (x ∷ a) (y ∷ b) e = go (ℕ_discrete x y) (weight-added a b (omega arith))
  where
    go : Dec (x ≡ y) → weight (added a b) ≤ changes a b → weight (bit_xor x y ∷ added a b) ≤ cond (eqb x y) 0 1 + changes a b
    go (yes p) r = omega (arith, unlike_same (bit_xor x y) 0 (ap (bit_xor x) (sym p) ∙ xor_self x))
    go (no p) r = omega (arith, unlike_other x y p, unlike_le (bit_xor x y) 0)

-- words whose sum is all zeros are equal
pub added-zero : (a b : List ℕ) → length a ≡ length b → added a b ≡ replicate (length a) 0 → a ≡ b
added-zero [] [] e z = refl
added-zero [] (y ∷ b) e z = absurd (omega arith)
added-zero (x ∷ a) [] e z = absurd (omega arith)
added-zero (x ∷ a) (y ∷ b) e z =
    let p : bit_xor x y ≡ 0 = cc in
    let q : added a b ≡ replicate (length a) 0 = cc in
    ap₂ ◌∷◌ (xor_equal x y p) (added-zero a b (omega arith) q)

-- two words of at most 255 bytes with the same J sums that differ in at most J places are equal
pub same-sums : (J : ℕ) (a b : List ℕ) → length a ≡ length b → length a ≤ 255 → Bytes a → Bytes b
    → ((j : ℕ) → j < J → sum j a ≡ sum j b) → changes a b ≤ J → a ≡ b
same-sums J a b e k ha hb s h =
    added-zero a b e
    (distance J (added a b) (bytes_added a b ha hb) (omega (arith, length-added a b e)) (omega (arith, weight-added a b e))
    (λ j hj. sum_added j a b e ∙ ap (λ (x : ℕ). bit_xor x (sum j b)) (s j hj) ∙ xor_self (sum j b))
    ∙ ap (λ (n : ℕ). replicate n 0) (length-added a b e))

-- two codewords that differ in at most J places are equal
pub codewords_differ : (J : ℕ) (a b : List ℕ) → length a ≡ length b → length a ≤ 255 → Bytes a → Bytes b
    → Codeword J a → Codeword J b → changes a b ≤ J → a ≡ b
codewords_differ J a b e k ha hb ca cb = same-sums J a b e k ha hb (λ j hj. ca j hj ∙ sym (cb j hj))
