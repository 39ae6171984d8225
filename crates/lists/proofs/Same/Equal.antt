-- The test holds exactly of equal lists.
-- Assumes nothing.
use Rattle.std.specs.Prelude.{◌≡◌, refl, Bool, true, false, List, [], ◌∷◌, ℕ, T, eqb, length}
use Rattle.std.proofs.Common.{sym, ap, ap₂, eqb→eq}
use Rattle.std.proofs.Math.Dec.{eqb_refl}
use Rattle.outcome.specs.Table.Entries.{and_left, and_right, and_both, true_of, of_true}
use Rattle.lists.specs.Same.{same}

equal_of : (a b : List ℕ) → T (same a b) → a ≡ b
unfolding same
equal_of [] [] t = refl
equal_of [] (y ∷ b) t = absurd t
equal_of (x ∷ a) [] t = absurd t
equal_of (x ∷ a) (y ∷ b) t =
    ap₂ ◌∷◌ (eqb→eq x y (and_left (eqb x y) (same a b) t)) (equal_of a b (and_right (eqb x y) (same a b) t))

self : (a : List ℕ) → T (same a a)
unfolding same
self [] = tt
self (x ∷ a) = and_both (eqb x x) (same a a) (eqb_refl x) (self a)

-- a list is the same as itself
pub same_self : (a : List ℕ) → same a a ≡ true
same_self a = true_of (same a a) (self a)

-- the test holds exactly where the lists are equal
pub equal_same : (a b : List ℕ) → a ≡ b → same a b ≡ true
equal_same a b e = rw e (same_self b)

pub same_equal : (a b : List ℕ) → same a b ≡ true → a ≡ b
same_equal a b e = equal_of a b (of_true (same a b) e)

-- what a function that answers true exactly where they are equal gives
pub same_is : (a b : List ℕ) (r : Bool) → (r ≡ true → a ≡ b) → (a ≡ b → r ≡ true) → r ≡ same a b
same_is a b true p q = sym (equal_same a b (p refl))
same_is a b false p q = go (same a b) refl
  where
    go : (t : Bool) → same a b ≡ t → false ≡ t
    go true e = q (same_equal a b e)
    go false e = refl

-- lists of different lengths are not the same
pub unlike_lengths : (a b : List ℕ) → (length a ≡ length b → ⊥) → same a b ≡ false
unlike_lengths a b n = go (same a b) refl
  where
    go : (t : Bool) → same a b ≡ t → t ≡ false
    go true e = absurd (n (ap length (same_equal a b e)))
    go false e = refl
