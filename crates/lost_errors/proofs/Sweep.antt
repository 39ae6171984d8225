-- A loop over the marks from the end: what is made of the marks from i on.
-- Assumes nothing.
use mathlib.Core.Path.{◌≡◌, sym, ap, ap₂, ◌∙◌}
use mathlib.Core.List.{List, [], ◌∷◌}
use Prim.Native.Nat.{ℕ, suc, ◌-◌, ◌≤◌, ◌<◌}
use native.Mathlib.Omega.{arith}
use lib.Bits.{bit_xor}
use lib.ListN.{length, get_or, drop, length-drop}
use lib.Seq.{drop-cons, drop-length, get_or-set_same, get_or-set_other}
use Rattle.field.specs.Field.{times_alpha, power, mul}
use Rattle.field.specs.Field.Powers.{power-lt, power_zero, power-suc}
use Rattle.field.specs.Inverse.{InverseOf}
use Rattle.field.specs.Inverse.One.{inverse_of_one}
use Rattle.erasures.specs.Errors.{step, twisted, factor, inverse_of, weight_at, others, error_at}
use Rattle.erasures.specs.Errors.Right.{inverse_is}
use Rattle.erasures.specs.Errors.Factor.{factor-lt, factor-unmarked, factor-marked}
use Rattle.erasures.specs.Errors.Scaled.{twisted-unmarked, twisted-marked}

-- one mark more in front
front : (m : List ℕ) (i : ℕ) → i ≤ length m → 0 < i → drop (i - 1) m ≡ get_or m (i - 1) 0 ∷ drop i m
front m i h k =
    let e : suc (i - 1) ≡ i = omega arith in
    drop-cons m (i - 1) 0 (omega arith) ∙ ap (λ (n : ℕ). get_or m (i - 1) 0 ∷ drop n m) e

-- the mark at p counts as 0 among those of the other places
pub other_self : (m : List ℕ) (p i : ℕ) → i < length m → i ≡ p → 0 ≡ get_or (others m p) i 0
other_self m p i h e = let l : p < length m = omega arith in sym (ap (λ (k : ℕ). get_or (others m p) k 0) e ∙ get_or-set_same m p 0 0 l)

-- and each other one as it stands
pub other_kept : (m : List ℕ) (p i : ℕ) → (i ≡ p → ⊥) → get_or (others m p) i 0 ≡ get_or m i 0
other_kept m p i n = get_or-set_other m p i 0 0 n

-- ---- the sums s twisted, and the factor of y

pub record Turned (m s : List ℕ) (y : ℕ) (t : List ℕ) (f x i : ℕ) : Type 0 where
  pub upto : i ≤ length m
  pub sums : t ≡ twisted (drop i m) s
  pub factors : f ≡ factor (drop i m) y
  pub at : x ≡ power (length m - i)

pub turned_none : (m s : List ℕ) (y k : ℕ) → k ≡ length m → Turned m s y s 1 1 k
unfolding twisted factor
turned_none m s y k l =
    record {
      upto = omega arith;
      sums = sym (ap (λ (d : List ℕ). twisted d s) none);
      factors = sym (ap (λ (d : List ℕ). factor d y) none);
      at = let e : length m - k ≡ 0 = omega arith in sym (ap power e ∙ power_zero);
    }
  where
    none : drop k m ≡ []
    none = ap (λ (n : ℕ). drop n m) l ∙ drop-length m

module _ {m s : List ℕ} {y : ℕ} {t : List ℕ} {f x i : ℕ} (c : Turned m s y t f x i) where
  pub turned-sums : i ≤ 0 → t ≡ twisted m s
  turned-sums h = let e : i ≡ 0 = omega arith in c.sums ∙ ap (λ (k : ℕ). twisted (drop k m) s) e

  pub turned-factor : i ≤ 0 → f ≡ factor m y
  turned-factor h = let e : i ≡ 0 = omega arith in c.factors ∙ ap (λ (k : ℕ). factor (drop k m) y) e

  module _ (h : 0 < i) (x' : ℕ) (q : x' ≡ times_alpha x) where
    next : x' ≡ power (length m - (i - 1))
    next =
        let e : suc (length m - i) ≡ length m - (i - 1) = omega (arith, c.upto) in
        q ∙ ap times_alpha c.at ∙ sym (power-suc (length m - i)) ∙ ap power e

    rest_long : length (drop i m) ≡ length m - i
    rest_long = length-drop i m

    pub turned-kept : get_or m (i - 1) 0 ≡ 0 → Turned m s y t f x' (i - 1)
    turned-kept z =
        record {
          upto = omega (arith, c.upto);
          sums = c.sums ∙ sym (ap (λ (d : List ℕ). twisted d s) (front m i c.upto h) ∙ twisted-unmarked (get_or m (i - 1) 0) (drop i m) s z);
          factors = c.factors ∙ sym (ap (λ (d : List ℕ). factor d y) (front m i c.upto h) ∙ factor-unmarked (get_or m (i - 1) 0) (drop i m) y z);
          at = next;
        }

    pub turned_lost : (get_or m (i - 1) 0 ≡ 0 → ⊥) → (t' : List ℕ) (f' : ℕ) → t' ≡ step x t → f' ≡ mul f (bit_xor y x)
        → Turned m s y t' f' x' (i - 1)
    turned_lost n t' f' p r =
        record {
          upto = omega (arith, c.upto);
          sums = p ∙ ap₂ step weigh c.sums
              ∙ sym (ap (λ (d : List ℕ). twisted d s) (front m i c.upto h) ∙ twisted-marked (get_or m (i - 1) 0) (drop i m) s n);
          factors = r ∙ ap₂ (λ (a b : ℕ). mul a (bit_xor y b)) c.factors weigh
              ∙ sym (ap (λ (d : List ℕ). factor d y) (front m i c.upto h) ∙ factor-marked (get_or m (i - 1) 0) (drop i m) y n);
          at = next;
        }
      where
        weigh : x ≡ power (length (drop i m))
        weigh = c.at ∙ ap power (sym rest_long)

-- so with the last turn the error is made
pub turned_error : (m s : List ℕ) (p y : ℕ) {t : List ℕ} {f x i v r : ℕ} → Turned (others m p) s y t f x i → i ≤ 0 → y ≡ weight_at m p → InverseOf f v
    → r ≡ mul (get_or t 0 0) v → r ≡ error_at m s p
unfolding error_at
turned_error m s p y {t} {f} {x} {i} {v} c h e n q =
    let g : f ≡ factor (others m p) (weight_at m p) = turned-factor c h ∙ ap (factor (others m p)) e in
    let l : f < 256 = omega (arith, factor-lt (others m p) (weight_at m p) (power-lt (length m - 1 - p))) in
    q
    ∙ ap₂ (λ (d : List ℕ) (k : ℕ). mul (get_or d 0 0) k) (turned-sums c h) (inverse_of_one f v (inverse_of f) l n (inverse_is f l))
    ∙ ap (λ (k : ℕ). mul (get_or (twisted (others m p) s) 0 0) (inverse_of k)) g
