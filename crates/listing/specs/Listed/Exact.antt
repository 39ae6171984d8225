-- The list is exact: as long as the count of changes, in rising position, each change true, and none left out.
-- Assumes nothing.
use Rattle.std.specs.Prelude.{◌≡◌, refl, Bool, true, false, cond, List, [], ◌∷◌, ℕ, zero, suc, ◌+◌, ◌≤◌, ◌<◌, eqb, length, get_or}
use Rattle.std.proofs.Common.{subst, arith, eqb-true, eq-eqb}
use Rattle.codeword.specs.Code.{changes}
use Rattle.listing.specs.Listed.{Change, listed}

-- the positions rise, from i on
pub data Rising : ℕ → List Change → Type 0 where
  none : {i : ℕ} → Rising i []
  next : {i : ℕ} {c : Change} {l : List Change} → i ≤ c.at → Rising (suc c.at) l → Rising i (c ∷ l)

-- c is a change from a to b, whose first elements have position i
pub record Right (i : ℕ) (a b : List ℕ) (c : Change) : Type 0 where
  pub offset : ℕ
  pub place : c.at ≡ i + offset
  pub inside : offset < length a
  pub was_there : get_or a offset 0 ≡ c.was
  pub is_there : get_or b offset 0 ≡ c.is
  pub unlike : c.was ≡ c.is → ⊥

pub data EachChange (P : Change → Type 0) : List Change → Type 0 where
  all_none : EachChange P []
  all_next : {c : Change} {l : List Change} → P c → EachChange P l → EachChange P (c ∷ l)

-- one of them is at position p
pub data Has (p : ℕ) : List Change → Type 0 where
  here : {c : Change} {l : List Change} → c.at ≡ p → Has p (c ∷ l)
  later : {c : Change} {l : List Change} → Has p l → Has p (c ∷ l)

-- as many as there are changed bytes
pub length-listed : (i : ℕ) (a b : List ℕ) → length (listed i a b) ≡ changes a b
unfolding listed changes
length-listed i [] b = refl
length-listed i (x ∷ a) [] = refl
length-listed i (x ∷ a) (y ∷ b) = go (eqb x y) (length-listed (suc i) a b)
  where
    go : (t : Bool) → length (listed (suc i) a b) ≡ changes a b
        → length (cond t (listed (suc i) a b) (record { at = i; was = x; is = y } ∷ listed (suc i) a b)) ≡ cond t 0 1 + changes a b
    go true e = omega (arith, e)
    go false e = omega (arith, e)

lower : {i j : ℕ} {l : List Change} → i ≤ j → Rising j l → Rising i l
lower h none = none
lower {i} h (next {c = c} k r) = next {i = i} {c = c} (omega arith) r

pub listed_rises : (i : ℕ) (a b : List ℕ) → Rising i (listed i a b)
unfolding listed
listed_rises i [] b = none
listed_rises i (x ∷ a) [] = none
listed_rises i (x ∷ a) (y ∷ b) = go (eqb x y) (listed_rises (suc i) a b)
  where
    go : (t : Bool) → Rising (suc i) (listed (suc i) a b)
        → Rising i (cond t (listed (suc i) a b) (record { at = i; was = x; is = y } ∷ listed (suc i) a b))
    go true r = lower (omega arith) r
    go false r = next {i = i} {c = record { at = i; was = x; is = y }} (omega arith) r

right-later : (i x y : ℕ) (a b : List ℕ) (c : Change) → Right (suc i) a b c → Right i (x ∷ a) (y ∷ b) c
right-later i x y a b c r =
    record {
      offset = suc r.offset;
      place = omega (arith, r.place);
      inside = omega (arith, r.inside);
      was_there = r.was_there;
      is_there = r.is_there;
      unlike = r.unlike;
    }

each_later : (i x y : ℕ) (a b : List ℕ) {l : List Change} → EachChange (Right (suc i) a b) l → EachChange (Right i (x ∷ a) (y ∷ b)) l
each_later i x y a b all_none = all_none
each_later i x y a b (all_next {c = c} r e) = all_next (right-later i x y a b c r) (each_later i x y a b e)

-- each is true
pub listed-right : (i : ℕ) (a b : List ℕ) → EachChange (Right i a b) (listed i a b)
unfolding listed
listed-right i [] b = all_none
listed-right i (x ∷ a) [] = all_none
listed-right i (x ∷ a) (y ∷ b) = go (eqb x y) refl (each_later i x y a b (listed-right (suc i) a b))
  where
    not_same : eqb x y ≡ false → x ≡ y → ⊥
    not_same p q =
        let s : eqb x y ≡ true = eq-eqb x y q in
        let z : ◌≡◌ {A = ℕ} 0 1 = cc in omega arith

    go : (t : Bool) → eqb x y ≡ t → EachChange (Right i (x ∷ a) (y ∷ b)) (listed (suc i) a b)
        → EachChange (Right i (x ∷ a) (y ∷ b)) (cond t (listed (suc i) a b) (record { at = i; was = x; is = y } ∷ listed (suc i) a b))
    go true p e = e
    go false p e =
        all_next {c = record { at = i; was = x; is = y }}
        (record { offset = 0; place = omega arith; inside = omega arith; was_there = refl; is_there = refl; unlike = not_same p })
        e

-- and none is left out
pub listed_has : (i : ℕ) (a b : List ℕ) (k : ℕ) → k < length a → length a ≡ length b → (get_or a k 0 ≡ get_or b k 0 → ⊥) → Has (i + k) (listed i a b)
unfolding listed
listed_has i [] b k h e n = absurd (omega arith)
listed_has i (x ∷ a) [] k h e n = absurd (omega arith)
listed_has i (x ∷ a) (y ∷ b) zero h e n = go (eqb x y) refl
  where
    go : (t : Bool) → eqb x y ≡ t → Has (i + 0) (cond t (listed (suc i) a b) (record { at = i; was = x; is = y } ∷ listed (suc i) a b))
    go true p = absurd (n (eqb-true x y p))
    go false p = here {c = record { at = i; was = x; is = y }} (omega arith)
listed_has i (x ∷ a) (y ∷ b) (suc k) h e n =
    go (eqb x y) (subst (λ (p : ℕ). Has p (listed (suc i) a b)) (omega arith) (listed_has (suc i) a b k (omega arith) (omega arith) n))
  where
    go : (t : Bool) → Has (i + suc k) (listed (suc i) a b)
        → Has (i + suc k) (cond t (listed (suc i) a b) (record { at = i; was = x; is = y } ∷ listed (suc i) a b))
    go true g = g
    go false g = later g
