-- A word of errors d, each byte times (its weight + that of each marked place): its first sums are the twisted sums of d, and it is 0 at
-- each marked place.
-- Assumes nothing.
use Rattle.std.specs.Prelude.{◌≡◌, refl, ◌⊎◌, List, [], ◌∷◌, ℕ, zero, suc, ◌+◌, ◌-◌, ◌≤◌, ◌<◌, length, get_or}
use Rattle.std.proofs.Common.{sym, ap, ap₂, ◌∙◌, inl, inr, arith, eq-eqb, ne_eqb}
use Rattle.std.proofs.Math.Decide.{ℕ_discrete}
use Rattle.std.specs.Int.Bits.{bit_xor, xor_zero_r}
use Rattle.std.proofs.lemmas.Nat.{xor_lt}
use Rattle.std.proofs.Math.ListN.{get_or-eq_default}
use Rattle.outcome.specs.Bytes.{Bytes}
use Rattle.outcome.specs.Bytes.Kept.{bytes_nil, bytes_cons}
use Rattle.outcome.specs.First.Found.{lt-or-le}
use Rattle.outcome.specs.Table.Entries.{tabulated-at}
use Rattle.field.specs.Field.{power, mul}
use Rattle.field.specs.Field.Linear.{mul-zero_l, mul-zero-r, mul-one-r}
use Rattle.field.specs.Field.Powers.{power-lt}
use Rattle.field.specs.Field.Product.{mul_assoc, mul_byte}
use Rattle.codeword.specs.Code.{sum, weight}
use Rattle.codeword.specs.Code.OneSumLess.{twist, sum-twist}
use Rattle.codeword.specs.Code.Sums.{times_none}
use Rattle.codeword.specs.Code.Changes.{unlike_same, unlike_other}
use Rattle.erasures.specs.Errors.{step, twisted, factor}
use Rattle.erasures.specs.Errors.Factor.{factor-unmarked, factor-marked, factor-lt, factor-zero}

-- ---- the word of errors

pub scaled : List ℕ → List ℕ → List ℕ
scaled ms [] = []
scaled ms (b ∷ d) = mul b (factor ms (power (length d))) ∷ scaled ms d

pub length-scaled : (ms d : List ℕ) → length (scaled ms d) ≡ length d
unfolding scaled
length-scaled ms [] = refl
length-scaled ms (b ∷ d) = ap suc (length-scaled ms d)

bytes_scaled : (ms d : List ℕ) → Bytes d → Bytes (scaled ms d)
unfolding scaled
bytes_scaled ms [] h = bytes_nil
bytes_scaled ms (b ∷ d) h =
    bytes_cons (mul b (factor ms (power (length d)))) (scaled ms d)
    (mul_byte b (factor ms (power (length d))) (h 0) (factor-lt ms (power (length d)) (power-lt (length d))))
    (bytes_scaled ms d (λ i. h (suc i)))

scaled_at : (ms d : List ℕ) (i : ℕ) → i < length d → get_or (scaled ms d) i 0 ≡ mul (get_or d i 0) (factor ms (power (length d - 1 - i)))
unfolding scaled
scaled_at ms [] i l = absurd (omega arith)
scaled_at ms (b ∷ d) zero l =
    let e : length d ≡ length (b ∷ d) - 1 - 0 = omega arith in
    ap (λ (k : ℕ). mul b (factor ms (power k))) e
scaled_at ms (b ∷ d) (suc i) l =
    let e : length d - 1 - i ≡ length (b ∷ d) - 1 - suc i = omega arith in
    scaled_at ms d i (omega arith) ∙ ap (λ (k : ℕ). mul (get_or d i 0) (factor ms (power k))) e

scaled-none : (d : List ℕ) → scaled [] d ≡ d
unfolding scaled factor
scaled-none [] = refl
scaled-none (b ∷ d) = ap₂ ◌∷◌ (mul-one-r b) (scaled-none d)

scaled-unmarked : (m : ℕ) (ms d : List ℕ) → m ≡ 0 → scaled (m ∷ ms) d ≡ scaled ms d
unfolding scaled
scaled-unmarked m ms [] e = refl
scaled-unmarked m ms (b ∷ d) e = ap₂ ◌∷◌ (ap (mul b) (factor-unmarked m ms (power (length d)) e)) (scaled-unmarked m ms d e)

scaled-marked : (m : ℕ) (ms d : List ℕ) → Bytes d → (m ≡ 0 → ⊥) → scaled (m ∷ ms) d ≡ twist (power (length ms)) (scaled ms d)
unfolding scaled twist
scaled-marked m ms [] h n = refl
scaled-marked m ms (b ∷ d) h n =
    ap₂ ◌∷◌
    (ap (mul b) (factor-marked m ms (power (length d)) n)
    ∙ sym (mul_assoc b (factor ms (power (length d))) (bit_xor (power (length d)) (power (length ms))) (h 0)
    (factor-lt ms (power (length d)) (power-lt (length d)))
    (xor_lt 8 (power (length d)) (power (length ms)) (power-lt (length d)) (power-lt (length ms))))
    ∙ ap (λ (k : ℕ). mul (mul b (factor ms (power (length d)))) (bit_xor (power k) (power (length ms)))) (sym (length-scaled ms d)))
    (scaled-marked m ms d (λ i. h (suc i)) n)

-- ---- its sums are the twisted sums

pub twisted-unmarked : (m : ℕ) (ms s : List ℕ) → m ≡ 0 → twisted (m ∷ ms) s ≡ twisted ms s
unfolding twisted
twisted-unmarked m ms s e = rw (eq-eqb m 0 e)

pub twisted-marked : (m : ℕ) (ms s : List ℕ) → (m ≡ 0 → ⊥) → twisted (m ∷ ms) s ≡ step (power (length ms)) (twisted ms s)
unfolding twisted
twisted-marked m ms s n = rw (ne_eqb m 0 n)

step-at : (x : ℕ) (s : List ℕ) (j : ℕ) → j < 4 → get_or (step x s) j 0 ≡ bit_xor (get_or s (suc j) 0) (mul (get_or s j 0) x)
step-at x s j h = tabulated-at (λ j. bit_xor (get_or s (suc j) 0) (mul (get_or s j 0) x)) 4 j h

pub twisted-sums : (J : ℕ) (ms d s : List ℕ) → J ≤ 4 → Bytes d → ((j : ℕ) → j < J → get_or s j 0 ≡ sum j d)
    → (j : ℕ) → j + weight ms < J → get_or (twisted ms s) j 0 ≡ sum j (scaled ms d)
unfolding twisted weight
twisted-sums J [] d s hj h r j l = r j (omega arith) ∙ ap (sum j) (sym (scaled-none d))
twisted-sums J (m ∷ ms) d s hj h r j l = go (ℕ_discrete m 0) (twisted-sums J ms d s hj h r)
  where
    go : Dec (m ≡ 0) → ((i : ℕ) → i + weight ms < J → get_or (twisted ms s) i 0 ≡ sum i (scaled ms d))
        → get_or (twisted (m ∷ ms) s) j 0 ≡ sum j (scaled (m ∷ ms) d)
    go (yes e) before =
        ap (λ (t : List ℕ). get_or t j 0) (twisted-unmarked m ms s e) ∙ before j (omega (arith, unlike_same m 0 e))
        ∙ ap (sum j) (sym (scaled-unmarked m ms d e))
    go (no n) before =
        ap (λ (t : List ℕ). get_or t j 0) (twisted-marked m ms s n)
        ∙ step-at (power (length ms)) (twisted ms s) j (omega arith)
        ∙ ap₂ (λ (a b : ℕ). bit_xor a (mul b (power (length ms))))
        (before (suc j) (omega (arith, unlike_other m 0 n))) (before j (omega (arith, unlike_other m 0 n)))
        ∙ sym (sum-twist j (power (length ms)) (scaled ms d) (power-lt (length ms)) (bytes_scaled ms d h))
        ∙ ap (sum j) (sym (scaled-marked m ms d h n))

-- ---- the first sum of a word that is 0 but at one place

sum-nothing : (l : List ℕ) → ((i : ℕ) → get_or l i 0 ≡ 0) → sum 0 l ≡ 0
unfolding sum
sum-nothing [] h = refl
sum-nothing (x ∷ l) h = ap₂ bit_xor (times_none x (length l) ∙ h 0) (sum-nothing l (λ i. h (suc i)))

sum_single : (l : List ℕ) (p : ℕ) → ((i : ℕ) → (i ≡ p → ⊥) → get_or l i 0 ≡ 0) → sum 0 l ≡ get_or l p 0
unfolding sum
sum_single [] p h = refl
sum_single (x ∷ l) zero h =
    ap₂ bit_xor (times_none x (length l)) (sum-nothing l (λ i. h (suc i) (λ e. omega arith))) ∙ xor_zero_r x
sum_single (x ∷ l) (suc p) h =
    ap₂ bit_xor (times_none x (length l) ∙ h 0 (λ e. omega arith)) (sum_single l p (λ i n. h (suc i) (λ e. n (omega arith))))

-- where every byte of d but that at p is 0 or marked, the first sum is that byte's
pub sum-scaled : (ms d : List ℕ) (p : ℕ) → length ms ≡ length d → p < length d
    → ((i : ℕ) → (i ≡ p → ⊥) → i < length d → get_or ms i 0 ≡ 0 → get_or d i 0 ≡ 0)
    → sum 0 (scaled ms d) ≡ mul (get_or d p 0) (factor ms (power (length d - 1 - p)))
sum-scaled ms d p e l h = sum_single (scaled ms d) p none ∙ scaled_at ms d p l
  where
    inside : (i : ℕ) → (i ≡ p → ⊥) → i < length d → Dec (get_or ms i 0 ≡ 0) → get_or (scaled ms d) i 0 ≡ 0
    inside i n k (yes z) =
        scaled_at ms d i k ∙ ap (λ (x : ℕ). mul x (factor ms (power (length d - 1 - i)))) (h i n k z)
        ∙ mul-zero_l (factor ms (power (length d - 1 - i)))
    inside i n k (no z) =
        scaled_at ms d i k
        ∙ ap (mul (get_or d i 0))
        (ap (λ (t : ℕ). factor ms (power (t - 1 - i))) (sym e) ∙ factor-zero ms i (omega arith) z)
        ∙ mul-zero-r (get_or d i 0)

    none : (i : ℕ) → (i ≡ p → ⊥) → get_or (scaled ms d) i 0 ≡ 0
    none i n = by (lt-or-le i (length d))
      where
        by : (i < length d) ⊎ (length d ≤ i) → get_or (scaled ms d) i 0 ≡ 0
        by (inl k) = inside i n k (ℕ_discrete (get_or ms i 0) 0)
        by (inr k) = get_or-eq_default (scaled ms d) 0 (omega (arith, length-scaled ms d))
