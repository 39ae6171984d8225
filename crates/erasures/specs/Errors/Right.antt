-- The errors of a word are bytes, and 0 where no byte is lost; the error of a lost byte is what makes the word the codeword that is sought.
-- Assumes nothing.
use Rattle.std.specs.Prelude.{◌≡◌, refl, Bool, true, false, cond, ◌⊎◌, List, [], ◌∷◌, ℕ, zero, suc, ◌+◌, ◌-◌, ◌≤◌, ◌<◌, eqb, length, get_or}
use Rattle.std.proofs.Common.{sym, ap, ◌∙◌, inl, inr, arith, length-set, get_or-set_same, get_or-set_other, eq-eqb, ne_eqb, eqb-true}
use Rattle.std.proofs.Math.Decide.{ℕ_discrete}
use Rattle.std.specs.Int.Bits.{bit_xor}
use Rattle.std.proofs.lemmas.Nat.{xor_lt}
use Rattle.outcome.specs.Bytes.{Bytes}
use Rattle.outcome.specs.First.{First, first_below}
use Rattle.outcome.specs.First.Found.{first_below_lem, lt-or-le}
use Rattle.outcome.specs.Table.Entries.{tabulated-at, length-tabulated, bytes_tabulated}
use Rattle.field.specs.Field.{power, mul}
use Rattle.field.specs.Field.Linear.{mul-one-r}
use Rattle.field.specs.Field.Powers.{power-lt}
use Rattle.field.specs.Field.Product.{mul_assoc, mul_byte, inverse_exists}
use Rattle.field.specs.Inverse.{InverseOf}
use Rattle.codeword.specs.Code.{sum, weight}
use Rattle.codeword.specs.Code.Changes.{unlike_same, unlike_other}
use Rattle.erasures.specs.Errors.{step, twisted, factor, inverse_of, weight_at, others, error_at, error_of, errors}
use Rattle.erasures.specs.Errors.Factor.{factor-lt, factor_nonzero}
use Rattle.erasures.specs.Errors.Scaled.{twisted-sums, sum-scaled}

-- ---- the inverse

pub inverse_is : (a : ℕ) → a < 256 → InverseOf a (inverse_of a)
unfolding inverse_of
inverse_is a h = go (ℕ_discrete a 0)
  where
    zero_case : a ≡ 0 → inverse_of a ≡ 0
    zero_case e = rw (eq-eqb a 0 e)

    other_case : (a ≡ 0 → ⊥) → inverse_of a ≡ first_below (λ r. eqb (mul a r) 1) 256
    other_case n = rw (ne_eqb a 0 n)

    met : First (λ r. eqb (mul a r) 1 ≡ true) 256 (first_below (λ r. eqb (mul a r) 1) 256)
    met = first_below_lem (λ r. eqb (mul a r) 1) 256

    less : (a ≡ 0 → ⊥) → first_below (λ r. eqb (mul a r) 1) 256 < 256
    less n = by (lt-or-le (first_below (λ r. eqb (mul a r) 1) 256) 256)
      where
        by : (first_below (λ r. eqb (mul a r) 1) 256 < 256) ⊎ (256 ≤ first_below (λ r. eqb (mul a r) 1) 256) → first_below (λ r. eqb (mul a r) 1) 256 < 256
        by (inl l) = l
        by (inr l) =
            let b = inverse_exists a h n in
            absurd (met.before b.0 (omega (arith, b.1)) (eq-eqb (mul a b.0) 1 b.2))

    go : Dec (a ≡ 0) → InverseOf a (inverse_of a)
    go (yes e) = record { byte = omega (arith, zero_case e); of_zero = λ _. zero_case e; unit = λ n. absurd (n e) }
    go (no n) =
        record {
          byte = omega (arith, other_case n, less n);
          of_zero = λ e. absurd (n e);
          unit = λ _. ap (mul a) (other_case n) ∙ eqb-true (mul a (first_below (λ r. eqb (mul a r) 1) 256)) 1 (met.holds (less n));
        }

-- a byte times another, over that other one
over-factor : (x f : ℕ) → x < 256 → f < 256 → (f ≡ 0 → ⊥) → mul (mul x f) (inverse_of f) ≡ x
over-factor x f hx hf n =
    mul_assoc x f (inverse_of f) hx hf (inverse_is f hf).byte ∙ ap (mul x) ((inverse_is f hf).unit n) ∙ mul-one-r x

-- ---- the marks of the other places

-- one is lost less
pub weight-others : (m : List ℕ) (p : ℕ) → p < length m → (get_or m p 0 ≡ 0 → ⊥) → weight (others m p) + 1 ≡ weight m
unfolding weight
weight-others [] p l n = absurd (omega arith)
weight-others (x ∷ m) zero l n = omega (arith, unlike_other x 0 n, unlike_same 0 0 refl)
weight-others (x ∷ m) (suc p) l n = omega (arith, weight-others m p (omega arith) n)

-- their factor isn't 0
others-factor : (m : List ℕ) (p : ℕ) → p < length m → length m ≤ 255 → factor (others m p) (weight_at m p) ≡ 0 → ⊥
others-factor m p l k =
    factor_nonzero (others m p) (length m - 1 - p) (omega arith) (omega (arith, length-set m p 0)) apart
  where
    apart : (q : ℕ) → q < length (others m p) → (get_or (others m p) q 0 ≡ 0 → ⊥) → length (others m p) - 1 - q ≡ length m - 1 - p → ⊥
    apart q h n e =
        let s : q ≡ p = omega (arith, length-set m p 0) in
        n (ap (λ (i : ℕ). get_or (others m p) i 0) s ∙ get_or-set_same m p 0 0 l)

-- ---- the errors are bytes

twisted_bytes : (ms s : List ℕ) → Bytes s → Bytes (twisted ms s)
unfolding twisted
twisted_bytes [] s h = h
twisted_bytes (m ∷ ms) s h = go (eqb m 0) (twisted_bytes ms s h)
  where
    go : (b : Bool) → Bytes (twisted ms s) → Bytes (cond b (twisted ms s) (step (power (length ms)) (twisted ms s)))
    go true r = r
    go false r =
        bytes_tabulated (λ j. bit_xor (get_or (twisted ms s) (suc j) 0) (mul (get_or (twisted ms s) j 0) (power (length ms)))) 0 4
        (λ j. xor_lt 8 (get_or (twisted ms s) (suc j) 0) (mul (get_or (twisted ms s) j 0) (power (length ms))) (r (suc j))
        (mul_byte (get_or (twisted ms s) j 0) (power (length ms)) (r j) (power-lt (length ms))))

error_lt : (m s : List ℕ) (p : ℕ) → Bytes s → error_of m s p < 256
unfolding error_of error_at
error_lt m s p h = go (eqb (get_or m p 0) 0)
  where
    go : (b : Bool) → cond b 0 (mul (get_or (twisted (others m p) s) 0 0) (inverse_of (factor (others m p) (weight_at m p)))) < 256
    go true = omega arith
    go false =
        mul_byte (get_or (twisted (others m p) s) 0 0) (inverse_of (factor (others m p) (weight_at m p))) (twisted_bytes (others m p) s h 0)
        (inverse_is (factor (others m p) (weight_at m p)) (factor-lt (others m p) (weight_at m p) (power-lt (length m - 1 - p)))).byte

pub length-errors : (m s : List ℕ) → length (errors m s) ≡ length m
unfolding errors
length-errors m s = length-tabulated (error_of m s) 0 (length m)

pub bytes_errors : (m s : List ℕ) → Bytes s → Bytes (errors m s)
unfolding errors
bytes_errors m s h = bytes_tabulated (error_of m s) 0 (length m) (λ p. error_lt m s p h)

pub errors-at : (m s : List ℕ) (p : ℕ) → p < length m → get_or (errors m s) p 0 ≡ error_of m s p
unfolding errors
errors-at m s p l = tabulated-at (error_of m s) (length m) p l

pub error_kept : (m s : List ℕ) (p : ℕ) → get_or m p 0 ≡ 0 → error_of m s p ≡ 0
unfolding error_of
error_kept m s p e = rw (eq-eqb (get_or m p 0) 0 e)

pub error_lost : (m s : List ℕ) (p : ℕ) → (get_or m p 0 ≡ 0 → ⊥) → error_of m s p ≡ error_at m s p
unfolding error_of
error_lost m s p n = rw (ne_eqb (get_or m p 0) 0 n)

-- ---- a lost byte's error is what its byte differs by, where every byte that differs is lost and the sums are those of the difference

pub error_right : (m d s : List ℕ) (p : ℕ) → length m ≡ length d → length d ≤ 255 → weight m ≤ 4 → Bytes d
    → ((j : ℕ) → j < 4 → get_or s j 0 ≡ sum j d) → ((i : ℕ) → i < length d → get_or m i 0 ≡ 0 → get_or d i 0 ≡ 0)
    → p < length d → (get_or m p 0 ≡ 0 → ⊥) → error_at m s p ≡ get_or d p 0
unfolding error_at
error_right m d s p e k w hb hs hd l n =
    let f : factor (others m p) (weight_at m p) < 256 = factor-lt (others m p) (weight_at m p) (power-lt (length m - 1 - p)) in
    ap (λ (x : ℕ). mul x (inverse_of (factor (others m p) (weight_at m p))))
    (twisted-sums 4 (others m p) d s (omega arith) hb hs 0 (omega (arith, weight-others m p (omega arith) n))
    ∙ sum-scaled (others m p) d p (length-set m p 0 ∙ e) l rest
    ∙ ap (λ (t : ℕ). mul (get_or d p 0) (factor (others m p) (power (t - 1 - p)))) (sym e))
    ∙ over-factor (get_or d p 0) (factor (others m p) (weight_at m p)) (hb p) f (others-factor m p (omega arith) (omega arith))
  where
    rest : (i : ℕ) → (i ≡ p → ⊥) → i < length d → get_or (others m p) i 0 ≡ 0 → get_or d i 0 ≡ 0
    rest i o h z = hd i h (sym (get_or-set_other m p i 0 0 o) ∙ z)
