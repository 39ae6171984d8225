-- Counting the places in which two words differ.
-- Assumes nothing.
use Rattle.std.specs.Prelude.{◌≡◌, refl, cond, ◌⊎◌, List, [], ◌∷◌, ℕ, zero, suc, ◌+◌, ◌≤◌, ◌<◌, eqb, length, set}
use Rattle.std.proofs.Common.{sym, ap, ap₂, ◌∙◌, inl, inr, arith, eq-eqb, ne_eqb}
use Rattle.std.proofs.Math.Decide.{ℕ_discrete}
use Rattle.codeword.specs.Code.{changes, weight}

-- ---- two bytes

pub unlike_same : (x y : ℕ) → x ≡ y → cond {A = ℕ} (eqb x y) 0 1 ≡ 0
unlike_same x y e = rw (eq-eqb x y e)

pub unlike_other : (x y : ℕ) → (x ≡ y → ⊥) → cond {A = ℕ} (eqb x y) 0 1 ≡ 1
unlike_other x y n = rw (ne_eqb x y n)

pub unlike_le : (x y : ℕ) → cond {A = ℕ} (eqb x y) 0 1 ≤ 1
unlike_le x y = go (ℕ_discrete x y)
  where
    go : Dec (x ≡ y) → cond {A = ℕ} (eqb x y) 0 1 ≤ 1
    go (yes p) = omega (arith, unlike_same x y p)
    go (no n) = omega (arith, unlike_other x y n)

-- ---- one word

pub weight-le : (w : List ℕ) → weight w ≤ length w
unfolding weight
weight-le [] = omega arith
weight-le (x ∷ w) = omega (arith, unlike_le x 0, weight-le w)

-- ---- two words

pub changes_self : (w : List ℕ) → changes w w ≡ 0
unfolding changes
changes_self [] = refl
changes_self (x ∷ w) = ap₂ (λ (m n : ℕ). m + n) (unlike_same x x refl) (changes_self w)

pub changes-none : (a b : List ℕ) → length a ≡ length b → changes a b ≡ 0 → a ≡ b
unfolding changes
changes-none [] [] e h = refl
changes-none [] (y ∷ b) e h = absurd (omega arith)
changes-none (x ∷ a) [] e h = absurd (omega arith)
changes-none (x ∷ a) (y ∷ b) e h = go (ℕ_discrete x y) (changes-none a b (omega arith))
  where
    go : Dec (x ≡ y) → (changes a b ≡ 0 → a ≡ b) → x ∷ a ≡ y ∷ b
    go (yes p) r = ap₂ ◌∷◌ p (r (omega (arith, unlike_same x y p)))
    go (no n) r = absurd (omega (arith, unlike_other x y n))

pub changes-le : (a b : List ℕ) → changes a b ≤ length a
unfolding changes
changes-le [] b = omega arith
changes-le (x ∷ a) [] = omega arith
changes-le (x ∷ a) (y ∷ b) = omega (arith, unlike_le x y, changes-le a b)

pub changes-set : (w : List ℕ) (i v : ℕ) → changes w (set w i v) ≤ 1
unfolding changes
changes-set [] i v = omega arith
changes-set (x ∷ w) zero v = omega (arith, unlike_le x v, changes_self w)
changes-set (x ∷ w) (suc i) v = omega (arith, unlike_same x x refl, changes-set w i v)

pub changes_triangle : (w a b : List ℕ) → length a ≡ length w → length b ≡ length w → changes a b ≤ changes w a + changes w b
unfolding changes
changes_triangle [] [] [] p q = omega arith
changes_triangle [] (x ∷ a) b p q = absurd (omega arith)
changes_triangle [] [] (y ∷ b) p q = absurd (omega arith)
changes_triangle (v ∷ w) [] b p q = absurd (omega arith)
changes_triangle (v ∷ w) (x ∷ a) [] p q = absurd (omega arith)
changes_triangle (v ∷ w) (x ∷ a) (y ∷ b) p q =
    go (ℕ_discrete x y) (ℕ_discrete v x) (ℕ_discrete v y) (changes_triangle w a b (omega arith) (omega arith))
  where
    go : Dec (x ≡ y) → Dec (v ≡ x) → Dec (v ≡ y) → changes a b ≤ changes w a + changes w b
        → cond (eqb x y) 0 1 + changes a b ≤ (cond (eqb v x) 0 1 + changes w a) + (cond (eqb v y) 0 1 + changes w b)
    go (yes s) t u r = omega (arith, unlike_same x y s)
    go (no s) (no t) u r = omega (arith, unlike_other x y s, unlike_other v x t)
    go (no s) (yes t) (no u) r = omega (arith, unlike_other x y s, unlike_other v y u)
    go (no s) (yes t) (yes u) r = absurd (s (sym t ∙ u))

-- ---- one change at most: b is a, or a with another byte at one place

pub record OneByte (a b : List ℕ) : Type 0 where
  pub place : ℕ
  pub value : ℕ
  pub inside : place < length a
  pub is : b ≡ set a place value

pub one-change : (a b : List ℕ) → length a ≡ length b → changes a b ≤ 1 → (a ≡ b) ⊎ OneByte a b
unfolding changes
one-change [] [] e h = inl refl
one-change [] (y ∷ b) e h = absurd (omega arith)
one-change (x ∷ a) [] e h = absurd (omega arith)
one-change (x ∷ a) (y ∷ b) e h = go (ℕ_discrete x y) (one-change a b (omega arith))
  where
    later : x ≡ y → (a ≡ b) ⊎ OneByte a b → (x ∷ a ≡ y ∷ b) ⊎ OneByte (x ∷ a) (y ∷ b)
    later p (inl q) = inl (ap₂ ◌∷◌ p q)
    later p (inr o) = inr (record { place = suc o.place; value = o.value; inside = omega (arith, o.inside); is = ap₂ ◌∷◌ (sym p) o.is })

    go : Dec (x ≡ y) → (changes a b ≤ 1 → (a ≡ b) ⊎ OneByte a b) → (x ∷ a ≡ y ∷ b) ⊎ OneByte (x ∷ a) (y ∷ b)
    go (yes p) r = later p (r (omega (arith, unlike_same x y p)))
    go (no n) r =
        inr
        (record {
          place = 0;
          value = y;
          inside = omega arith;
          is = ap (λ (t : List ℕ). y ∷ t) (sym (changes-none a b (omega arith) (omega (arith, unlike_other x y n))));
        })
