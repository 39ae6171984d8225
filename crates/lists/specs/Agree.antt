-- Lists that agree on some of their places: as parts of them, and place by place.
-- Assumes nothing.
use Rattle.std.specs.Prelude.{◌≡◌, List, [], ◌∷◌, ℕ, zero, suc, ◌+◌, ◌-◌, ◌<◌, ◌≤◌, min, length, get_or, take, drop}
use Rattle.std.proofs.Common.{sym, ap, ◌∙◌, zero-add, suc-add, arith, length-take, length-drop, ext_get_or, get_or-take, get_or-drop}
use Rattle.std.proofs.Math.Seq.{take-nil}

-- ---- before a place, and from a place on

-- lists with the same first n places agree at each of them
pub same-front : (n : ℕ) (t u : List ℕ) → take n t ≡ take n u → (i : ℕ) → i < n → get_or t i 0 ≡ get_or u i 0
same-front n t u e i h = sym (get_or-take n t i 0 h) ∙ ap (λ (l : List ℕ). get_or l i 0) e ∙ get_or-take n u i 0 h

-- and so for the places from n on
pub same_back : (n : ℕ) (t u : List ℕ) → drop n t ≡ drop n u → (i : ℕ) → n ≤ i → get_or t i 0 ≡ get_or u i 0
same_back n t u e i h =
    let q : n + (i - n) ≡ i = omega arith in
    ap (λ (k : ℕ). get_or t k 0) (sym q) ∙ sym (get_or-drop n t (i - n) 0) ∙ ap (λ (l : List ℕ). get_or l (i - n) 0) e ∙ get_or-drop n u (i - n) 0
    ∙ ap (λ (k : ℕ). get_or u k 0) q

-- ---- and back

-- lists of one length that agree at each of the first n places have the same first n places
pub same-take : (n : ℕ) (t s : List ℕ) → length t ≡ length s → ((i : ℕ) → i < n → get_or t i 0 ≡ get_or s i 0) → take n t ≡ take n s
same-take n t s e h =
    ext_get_or 0 (take n t) (take n s) (length-take n t ∙ ap (min n) e ∙ sym (length-take n s))
    (λ i l.
    let k : i < n = omega (arith, length-take n t) in
    get_or-take n t i 0 k ∙ h i k ∙ sym (get_or-take n s i 0 k))

-- and so for the places from n on
pub same_drop : (n : ℕ) (t s : List ℕ) → length t ≡ length s → ((i : ℕ) → n ≤ i → get_or t i 0 ≡ get_or s i 0) → drop n t ≡ drop n s
same_drop n t s e h =
    ext_get_or 0 (drop n t) (drop n s) (length-drop n t ∙ ap (λ (m : ℕ). m - n) e ∙ sym (length-drop n s))
    (λ i l. get_or-drop n t i 0 ∙ h (n + i) (omega arith) ∙ sym (get_or-drop n s i 0))

-- ---- n places from a on

-- they are among the first a + n
pub drop-take : (a n : ℕ) (w : List ℕ) → drop a (take (a + n) w) ≡ take n (drop a w)
drop-take zero n w = ap (λ (m : ℕ). take m w) (zero-add n)
drop-take (suc a) n [] = ap (λ (m : ℕ). drop (suc a) (take m [])) (suc-add a n) ∙ sym (take-nil n)
drop-take (suc a) n (x ∷ w) = ap (λ (m : ℕ). drop (suc a) (take m (x ∷ w))) (suc-add a n) ∙ drop-take a n w

pub same-within : (a n : ℕ) (t u : List ℕ) → take (a + n) t ≡ take (a + n) u → take n (drop a t) ≡ take n (drop a u)
same-within a n t u e = sym (drop-take a n t) ∙ ap (drop a) e ∙ drop-take a n u

-- lists with the same n places from a on agree at each of them
pub same-between : (a n : ℕ) (t u : List ℕ) → take n (drop a t) ≡ take n (drop a u) → (i : ℕ) → a ≤ i → i < a + n → get_or t i 0 ≡ get_or u i 0
same-between a n t u e i l h =
    let q : a + (i - a) ≡ i = omega arith in
    ap (λ (k : ℕ). get_or t k 0) (sym q) ∙ sym (get_or-drop a t (i - a) 0) ∙ same-front n (drop a t) (drop a u) e (i - a) (omega arith)
    ∙ get_or-drop a u (i - a) 0 ∙ ap (λ (k : ℕ). get_or u k 0) q
