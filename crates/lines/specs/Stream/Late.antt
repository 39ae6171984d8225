-- Laws of a stream that comes d steps later.
-- Assumes nothing.
use Rattle.std.specs.Prelude.{◌≡◌, refl, ℕ, zero, suc, ◌+◌, ◌<◌}
use Rattle.std.proofs.Common.{sym, ap, ◌∙◌, add-zero, add-suc, zero-add, suc-add, not-suc-le-zero, le_of_suc-le-suc}
use Rattle.lines.specs.Stream.{back}

-- equal streams come late alike
pub back-same : {A : Type 0} (z : A) (x y : ℕ → A) (d n : ℕ) → ((m : ℕ) → x m ≡ y m) → back z x d n ≡ back z y d n
unfolding back
back-same z x y zero n h = h n
back-same z x y (suc d) zero h = refl
back-same z x y (suc d) (suc n) h = back-same z x y d n h

-- late twice: the waits add up
pub back-back : {A : Type 0} (z : A) (x : ℕ → A) (d e n : ℕ) → back z (back z x d) e n ≡ back z x (d + e) n
unfolding back
back-back z x d zero n = ap (λ (k : ℕ). back z x k n) (sym (add-zero d))
back-back z x d (suc e) zero = ap (λ (k : ℕ). back z x k zero) (sym (add-suc d e))
back-back z x d (suc e) (suc n) = back-back z x d e n ∙ ap (λ (k : ℕ). back z x k (suc n)) (sym (add-suc d e))

-- a function of what comes late
pub back-map : {A B : Type 0} (f : A → B) (z : A) (x : ℕ → A) (d n : ℕ) → f (back z x d n) ≡ back (f z) (λ m. f (x m)) d n
unfolding back
back-map f z x zero n = refl
back-map f z x (suc d) zero = refl
back-map f z x (suc d) (suc n) = back-map f z x d n

-- a function of two streams that come late alike
pub back-pair : {A B C : Type 0} (f : A → B → C) (y : A) (z : B) (v : ℕ → A) (w : ℕ → B) (d n : ℕ) → f (back y v d n) (back z w d n) ≡ back (f y z) (λ m. f (v m) (w m)) d n
unfolding back
back-pair f y z v w zero n = refl
back-pair f y z v w (suc d) zero = refl
back-pair f y z v w (suc d) (suc n) = back-pair f y z v w d n

-- what holds of all that goes in and of what was before the start, holds of what comes out
pub back_all : {A : Type 0} (P : A → Type 0) (z : A) (x : ℕ → A) (d n : ℕ) → P z → ((m : ℕ) → P (x m)) → P (back z x d n)
unfolding back
back_all P z x zero n hz h = h n
back_all P z x (suc d) zero hz h = hz
back_all P z x (suc d) (suc n) hz h = back_all P z x d n hz h

-- nothing but z gives nothing but z
pub back_none : {A : Type 0} (z : A) (d n : ℕ) → back z (λ m. z) d n ≡ z
back_none z d n = back_all (λ y. y ≡ z) z (λ m. z) d n refl (λ m. refl)

-- at step n + d it is the value of step n
pub back-later : {A : Type 0} (z : A) (x : ℕ → A) (d n : ℕ) → back z x d (d + n) ≡ x n
unfolding back
back-later z x zero n = ap x (zero-add n)
back-later z x (suc d) n = ap (back z x (suc d)) (suc-add d n) ∙ back-later z x d n

-- before that it is z
pub back-before : {A : Type 0} (z : A) (x : ℕ → A) (d n : ℕ) → n < d → back z x d n ≡ z
unfolding back
back-before z x zero n h = absurd (not-suc-le-zero h)
back-before z x (suc d) zero h = refl
back-before z x (suc d) (suc n) h = back-before z x d n (le_of_suc-le-suc h)

-- two streams that agree wherever a third is 0 do so d steps later
pub back_agree : (x y m : ℕ → ℕ) (d n : ℕ) → ((j : ℕ) → m j ≡ 0 → x j ≡ y j) → back 0 m d n ≡ 0 → back 0 x d n ≡ back 0 y d n
unfolding back
back_agree x y m zero n h z = h n z
back_agree x y m (suc d) zero h z = refl
back_agree x y m (suc d) (suc n) h z = back_agree x y m d n h z
