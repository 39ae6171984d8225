-- A table's entries are its rule's values, and a test that was computed over all holds at each.
-- Assumes nothing.
use Rattle.std.specs.Prelude.{◌≡◌, refl, Bool, true, false, ◌&&◌, ◌⊎◌, List, [], ◌∷◌, ◌++◌, ℕ, zero, suc, ◌+◌, ◌<◌, T, get_or, length}
use Rattle.std.proofs.Common.{sym, ap, ◌∙◌, subst, inl, inr, not-suc-le-zero, le_of_suc-le-suc, eq-or-lt_of_le, le_refl, suc-add, add-suc, add-zero, zero-add, ext_get_or, arith}
use Rattle.std.proofs.Math.Nat.{le_step}
use Rattle.outcome.specs.Bytes.{Bytes}
use Rattle.outcome.specs.Bytes.Kept.{bytes_nil, bytes_cons}
use Rattle.outcome.specs.Table.{tabulated, all_below}

pub length-tabulated : (f : ℕ → ℕ) (i n : ℕ) → length (tabulated f i n) ≡ n
length-tabulated f i zero = refl
length-tabulated f i (suc n) = ap suc (length-tabulated f (suc i) n)

pub tabulated-from : (f : ℕ → ℕ) (i n k : ℕ) → k < n → get_or (tabulated f i n) k 0 ≡ f (i + k)
tabulated-from f i zero k h = absurd (not-suc-le-zero h)
tabulated-from f i (suc n) zero h = ap f (sym (add-zero i))
tabulated-from f i (suc n) (suc k) h = tabulated-from f (suc i) n k (le_of_suc-le-suc h) ∙ ap f (suc-add i k ∙ sym (add-suc i k))

pub tabulated-at : (f : ℕ → ℕ) (n k : ℕ) → k < n → get_or (tabulated f 0 n) k 0 ≡ f k
tabulated-at f n k h = tabulated-from f 0 n k h ∙ ap f (zero-add k)

-- two such lists are equal where the rules agree
pub tabulated-same : (f g : ℕ → ℕ) (n : ℕ) → ((k : ℕ) → k < n → f k ≡ g k) → tabulated f 0 n ≡ tabulated g 0 n
tabulated-same f g n h =
    ext_get_or 0 (tabulated f 0 n) (tabulated g 0 n) (length-tabulated f 0 n ∙ sym (length-tabulated g 0 n))
    (λ k l.
    let m : k < n = omega (arith, length-tabulated f 0 n) in
    tabulated-at f n k m ∙ h k m ∙ sym (tabulated-at g n k m))

-- one value more at the end
pub tabulated_more : (f : ℕ → ℕ) (i n : ℕ) → tabulated f i (suc n) ≡ tabulated f i n ++ (f (i + n) ∷ [])
tabulated_more f i zero = ap (λ (x : ℕ). f x ∷ []) (sym (add-zero i))
tabulated_more f i (suc n) =
    ap (λ (t : List ℕ). f i ∷ t)
    (tabulated_more f (suc i) n ∙ ap (λ (x : ℕ). tabulated f (suc i) n ++ (f x ∷ [])) (suc-add i n ∙ sym (add-suc i n)))

pub bytes_tabulated : (f : ℕ → ℕ) (i n : ℕ) → ((k : ℕ) → f k < 256) → Bytes (tabulated f i n)
bytes_tabulated f i zero h = bytes_nil
bytes_tabulated f i (suc n) h = bytes_cons (f i) (tabulated f (suc i) n) (h i) (bytes_tabulated f (suc i) n h)

-- ---- a test at each number below n, computed once

pub and_left : (a b : Bool) → T (a && b) → T a
and_left true b t = tt
and_left false b t = t

pub and_right : (a b : Bool) → T (a && b) → T b
and_right true b t = t
and_right false b t = absurd t

pub and_both : (a b : Bool) → T a → T b → T (a && b)
and_both true b s t = t
and_both false b s t = s

-- the test holds at each of them
pub below : (f : ℕ → Bool) (n : ℕ) → T (all_below f n) → (k : ℕ) → k < n → T (f k)
below f zero t k h = absurd (not-suc-le-zero h)
below f (suc n) t k h = go (eq-or-lt_of_le (le_of_suc-le-suc h)) (below f n (and_right (f n) (all_below f n) t) k)
  where
    go : (k ≡ n) ⊎ (k < n) → (k < n → T (f k)) → T (f k)
    go (inl e) g = subst (λ (m : ℕ). T (f m)) (sym e) (and_left (f n) (all_below f n) t)
    go (inr l) g = g l

pub all_below_lem : (f : ℕ → Bool) (n : ℕ) → ((k : ℕ) → k < n → T (f k)) → T (all_below f n)
all_below_lem f zero g = tt
all_below_lem f (suc n) g = and_both (f n) (all_below f n) (g n (le_refl (suc n))) (all_below_lem f n (λ k h. g k (le_step h)))

-- a test's answer as an equation, and back
pub true_of : (b : Bool) → T b → b ≡ true
true_of true t = refl
true_of false t = absurd t

pub of_true : (b : Bool) → b ≡ true → T b
of_true b e = subst (λ (c : Bool). T c) (sym e) tt
