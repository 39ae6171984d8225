-- Lists of lists of n bytes, one after the other and in parts.
-- Assumes nothing.
use Rattle.std.specs.Prelude.{◌≡◌, refl, ℕ, zero, suc, ◌+◌, ◌*◌, ◌<◌, length, get_or, take, drop}
use Rattle.std.proofs.Common.{sym, ap, ap₂, ◌∙◌, not-suc-le-zero, le_of_suc-le-suc, arith, length-append, take_at, drop-drop, take-add}
use mathlib.Core.List.{List, [], ◌∷◌, ◌++◌, flatten, flat_map, append_assoc}
use Rattle.std.proofs.Math.Seq.{drop-append-add}
use Rattle.outcome.specs.Bytes.{Bytes}
use Rattle.outcome.specs.Bytes.Kept.{bytes_nil, bytes_append}
use Rattle.calls.specs.Calls.{firsts}
use Rattle.road.specs.Road.{OfBytes}

-- ---- parts of them

pub of_append : (n : ℕ) (v w : List (List ℕ)) → OfBytes n v → OfBytes n w → OfBytes n (v ++ w)
of_append n [] w hv hw = hw
of_append n (x ∷ v) w hv hw = (hv.0, (hv.1.0, of_append n v w hv.1.1 hw))

pub of_front : (n : ℕ) (v w : List (List ℕ)) → OfBytes n (v ++ w) → OfBytes n v
of_front n [] w h = tt
of_front n (x ∷ v) w h = (h.0, (h.1.0, of_front n v w h.1.1))

pub of_take : (n k : ℕ) (w : List (List ℕ)) → OfBytes n w → OfBytes n (take k w)
of_take n zero w h = tt
of_take n (suc k) [] h = tt
of_take n (suc k) (x ∷ w) h = (h.0, (h.1.0, of_take n k w h.1.1))

pub of_drop : (n k : ℕ) (w : List (List ℕ)) → OfBytes n w → OfBytes n (drop k w)
of_drop n zero w h = h
of_drop n (suc k) [] h = tt
of_drop n (suc k) (x ∷ w) h = of_drop n k w h.1.1

-- the one at an index, or the one that stands behind them
pub of_at : (n : ℕ) (z : List ℕ) → length z ≡ n → Bytes z → (w : List (List ℕ)) → OfBytes n w → (i : ℕ) → (length (get_or w i z) ≡ n) × Bytes (get_or w i z)
of_at n z l b [] h i = (l, b)
of_at n z l b (x ∷ w) h zero = (h.0, h.1.0)
of_at n z l b (x ∷ w) h (suc i) = of_at n z l b w h.1.1 i

-- those of a stream
pub of_firsts : (n : ℕ) (x : ℕ → List ℕ) (k m : ℕ) → ((i : ℕ) → i < k + m → (length (x i) ≡ n) × Bytes (x i)) → OfBytes n (firsts x k m)
of_firsts n x k zero h = tt
of_firsts n x k (suc m) h = let p = h k (omega arith) in (p.0, (p.1, of_firsts n x (suc k) m (λ i l. h i (omega arith))))

-- ---- one after the other

pub bytes_flatten : (n : ℕ) (w : List (List ℕ)) → OfBytes n w → Bytes (flatten w)
unfolding flatten
bytes_flatten n [] h = bytes_nil
bytes_flatten n (x ∷ w) h = bytes_append x (flatten w) h.1.0 (bytes_flatten n w h.1.1)

pub length_flatten : (w : List (List ℕ)) → OfBytes 32 w → length (flatten w) ≡ 32 * length w
unfolding flatten
length_flatten [] h = refl
length_flatten (x ∷ w) h = omega (arith, length-append x (flatten w), h.0, length_flatten w h.1.1)

-- each stands at its place
pub flatten_at : (w : List (List ℕ)) (z : List ℕ) (i : ℕ) → OfBytes 32 w → i < length w → take 32 (drop (32 * i) (flatten w)) ≡ get_or w i z
unfolding flatten
flatten_at [] z i h l = absurd (not-suc-le-zero l)
flatten_at (x ∷ w) z zero h l = take_at x (flatten w) 32 h.0
flatten_at (x ∷ w) z (suc i) h l =
    let e : 32 * suc i ≡ length x + 32 * i = omega (arith, h.0) in
    ap (λ (k : ℕ). take 32 (drop k (x ++ flatten w))) e
    ∙ ap (take 32) (drop-append-add x (flatten w) (32 * i))
    ∙ flatten_at w z i h.1.1 (le_of_suc-le-suc l)

-- frames of 24 bytes that are taken one after the other are those bytes again
pub flatten_frames : (w : List ℕ) (k n : ℕ) → flatten (firsts (λ f. take 24 (drop (24 * f) w)) k n) ≡ take (24 * n) (drop (24 * k) w)
unfolding flatten
flatten_frames w k zero = refl
flatten_frames w k (suc n) =
    let e : 24 * k + 24 ≡ 24 * suc k = omega arith in
    let g : 24 + 24 * n ≡ 24 * suc n = omega arith in
    ap (λ (t : List ℕ). take 24 (drop (24 * k) w) ++ t)
    (flatten_frames w (suc k) n ∙ ap (λ (j : ℕ). take (24 * n) (drop j w)) (sym e) ∙ ap (take (24 * n)) (sym (drop-drop 24 (24 * k) w)))
    ∙ sym (take-add 24 (24 * n) (drop (24 * k) w))
    ∙ ap (λ (j : ℕ). take j (drop (24 * k) w)) g

-- ---- lists made of the elements of a list

pub flat_map_append : {A B : Type 0} (f : A → List B) (v w : List A) → flat_map f (v ++ w) ≡ flat_map f v ++ flat_map f w
unfolding flat_map
flat_map_append f [] w = refl
flat_map_append {A} {B} f (x ∷ v) w = ap (λ (t : List B). f x ++ t) (flat_map_append f v w) ∙ sym (append_assoc (f x) (flat_map f v) (flat_map f w))

-- streams with the same first values
pub firsts_same : {A : Type 0} (x y : ℕ → A) (k n : ℕ) → ((i : ℕ) → i < k + n → x i ≡ y i) → firsts x k n ≡ firsts y k n
firsts_same x y k zero h = refl
firsts_same x y k (suc n) h = ap₂ ◌∷◌ (h k (omega arith)) (firsts_same x y (suc k) n (λ i l. h i (omega arith)))
