-- Counting the places in which two lists differ, one place after the other.
-- Assumes nothing.
use mathlib.Core.Path.{◌≡◌, refl, sym, ap, ◌∙◌}
use mathlib.Core.Bool.{Bool, true, false, cond, not}
use mathlib.Core.Logic.{◌⊎◌, inl, inr}
use mathlib.Core.List.{List, [], ◌∷◌}
use Prim.Native.Nat.{ℕ, zero, suc, ◌+◌, ◌≤◌, ◌<◌}
use native.Mathlib.Nat.{add_assoc, zero-add, add-zero}
use native.Mathlib.Numerals.{add-one}
use native.Mathlib.Omega.{arith}
use lib.Dec.{eqb}
use lib.ListN.{length, get_or, take}
use Rattle.std.specs.Int.{from_bool}
use Rattle.codeword.specs.Code.{changes}

-- two unlike bytes count one
pub unlike_counts : (t : Bool) → from_bool (not t) ≡ cond t 0 1
unlike_counts true = refl
unlike_counts false = refl

pub changes-none_yet : (a b : List ℕ) → changes (take 0 a) (take 0 b) ≡ 0
unfolding changes
changes-none_yet a b = refl

changes-suc : (a b : List ℕ) (i : ℕ) → i < length a → i < length b
    → changes (take (suc i) a) (take (suc i) b) ≡ changes (take i a) (take i b) + cond (eqb (get_or a i 0) (get_or b i 0)) 0 1
unfolding changes
changes-suc [] b i h k = absurd (omega arith)
changes-suc (x ∷ a) [] i h k = absurd (omega arith)
changes-suc (x ∷ a) (y ∷ b) zero h k = add-zero (cond (eqb x y) 0 1) ∙ sym (zero-add (cond (eqb x y) 0 1))
changes-suc (x ∷ a) (y ∷ b) (suc i) h k =
    ap (λ (n : ℕ). cond (eqb x y) 0 1 + n) (changes-suc a b i (omega arith) (omega arith))
    ∙ sym (add_assoc (cond (eqb x y) 0 1) (changes (take i a) (take i b)) (cond (eqb (get_or a i 0) (get_or b i 0)) 0 1))

-- one place more
pub changes_more : (a b : List ℕ) (i : ℕ) {count one : ℕ} → i < length a → i < length b → count ≡ changes (take i a) (take i b)
    → one ≡ cond (eqb (get_or a i 0) (get_or b i 0)) 0 1 → count + one ≡ changes (take (i + 1) a) (take (i + 1) b)
changes_more a b i h k p q =
    (λ j. p j + q j) ∙ sym (changes-suc a b i h k) ∙ ap (λ (n : ℕ). changes (take n a) (take n b)) (sym (add-one i))

-- past the end of the shorter list there is no place left
pub changes_all : (a b : List ℕ) (n : ℕ) → (length a ≤ n) ⊎ (length b ≤ n) → changes (take n a) (take n b) ≡ changes a b
unfolding changes
changes_all [] b zero h = refl
changes_all (x ∷ a) b zero (inl h) = absurd (omega arith)
changes_all (x ∷ a) [] zero (inr h) = refl
changes_all (x ∷ a) (y ∷ b) zero (inr h) = absurd (omega arith)
changes_all [] b (suc n) h = refl
changes_all (x ∷ a) [] (suc n) h = refl
changes_all (x ∷ a) (y ∷ b) (suc n) (inl h) = ap (λ (m : ℕ). cond (eqb x y) 0 1 + m) (changes_all a b n (inl (omega arith)))
changes_all (x ∷ a) (y ∷ b) (suc n) (inr h) = ap (λ (m : ℕ). cond (eqb x y) 0 1 + m) (changes_all a b n (inr (omega arith)))
