-- The first values of a stream: how many they are, which they are, and that a list is the first values of a stream.
-- Assumes nothing.
use Rattle.std.specs.Prelude.{◌≡◌, refl, List, [], ◌∷◌, map, ℕ, zero, suc, ◌+◌, ◌<◌, length, get_or}
use Rattle.std.proofs.Common.{sym, ap, ◌∙◌, not-suc-le-zero, le_of_suc-le-suc, zero-add, suc-add, add-suc, add-zero}
use Rattle.calls.specs.Calls.{firsts}

pub length-firsts : {A : Type 0} (x : ℕ → A) (k n : ℕ) → length (firsts x k n) ≡ n
length-firsts x k zero = refl
length-firsts x k (suc n) = ap suc (length-firsts x (suc k) n)

-- a function of each of them
pub map-firsts : {A B : Type 0} (f : A → B) (x : ℕ → A) (k n : ℕ) → map f (firsts x k n) ≡ firsts (λ m. f (x m)) k n
map-firsts f x k zero = refl
map-firsts {A} {B} f x k (suc n) = ap (λ (l : List B). f (x k) ∷ l) (map-firsts f x (suc k) n)

-- the value at an index
from_at : {A : Type 0} (z : A) (x : ℕ → A) (k n i : ℕ) → i < n → get_or (firsts x k n) i z ≡ x (k + i)
from_at z x k zero i h = absurd (not-suc-le-zero h)
from_at z x k (suc n) zero h = ap x (sym (add-zero k))
from_at z x k (suc n) (suc i) h = from_at z x (suc k) n i (le_of_suc-le-suc h) ∙ ap x (suc-add k i ∙ sym (add-suc k i))

pub firsts_at : {A : Type 0} (z : A) (x : ℕ → A) (n i : ℕ) → i < n → get_or (firsts x 0 n) i z ≡ x i
firsts_at z x n i h = from_at z x 0 n i h ∙ ap x (zero-add i)

-- a list is the first values of the stream that goes on with z behind it
later : {A : Type 0} (x : ℕ → A) (k n : ℕ) → firsts x (suc k) n ≡ firsts (λ m. x (suc m)) k n
later x k zero = refl
later {A} x k (suc n) = ap (λ (l : List A). x (suc k) ∷ l) (later x (suc k) n)

pub begins : {A : Type 0} (z : A) (l : List A) → l ≡ firsts (λ n. get_or l n z) 0 (length l)
begins z [] = refl
begins {A} z (x ∷ l) = ap (λ (t : List A). x ∷ t) (begins z l ∙ sym (later (λ n. get_or (x ∷ l) n z) 0 (length l)))
