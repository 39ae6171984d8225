-- A byte noted in the list, and the list of one byte more.
-- Assumes nothing.
use mathlib.Core.Path.{◌≡◌, refl, sym, ap, ap₂, ◌∙◌}
use mathlib.Core.Bool.{Bool, true, false, cond}
use mathlib.Core.List.{List, [], ◌∷◌, ◌++◌, append_assoc}
use Prim.Native.Nat.{ℕ, zero, suc, ◌+◌, ◌-◌, ◌*◌, ◌≤◌, ◌<◌}
use native.Mathlib.Nat.{add-zero, suc-add, add-suc}
use native.Mathlib.Omega.{arith}
use borrow.Rule.Slice.PartMut.{put_mid}
use lib.Dec.{eqb}
use lib.ListN.{length, get_or, take, drop, replicate, length-take, length-drop}
use lib.Seq.{take_at, drop-append-add}
use Rattle.outcome.specs.Buffer.Lengths.{same_lengths}
use Rattle.outcome.specs.Buffer.Part.{part-back}
use Rattle.listing.specs.Listed.{Change, listed, bytes_of, flat}
use Rattle.listing.specs.Listed.Made.{length-flat}
use Rattle.listing.specs.Inner.Note.{Notes}

-- ---- the ways out of noting a byte

pub on_same : (n i x y : ℕ) (list : List ℕ) → x ≡ y → Notes n i x y list n list
on_same n i x y list e = record { same = λ _. (refl, refl); other = λ d. absurd (d e) }

-- four bytes copied into the list
pub on_other : (n i x y : ℕ) (list part : List ℕ) (k : Bool) → 4 * n + 4 ≤ length list → (x ≡ y → ⊥)
    → (k ≡ eqb 4 (length (take (4 * n + 4 - 4 * n) (drop (4 * n) list)))) × (part ≡ cond k (bytes_of (record { at = i; was = x; is = y })) (take (4 * n + 4 - 4 * n) (drop (4 * n) list)))
    → Notes n i x y list (n + 1) (put_mid (4 * n) (4 * n + 4 - 4 * n) list part)
on_other n i x y list part k fits d c =
    record {
      same = λ e. absurd (d e);
      other = λ _. (
        refl,
        part-back (4 * n) (4 * n + 4) list part (omega arith)
            ∙ ap (λ (q : List ℕ). take (4 * n) list ++ (q ++ drop (4 * n + 4) list))
            (same_lengths k 4 (length (take (4 * n + 4 - 4 * n) (drop (4 * n) list))) part (bytes_of (record { at = i; was = x; is = y }))
            (take (4 * n + 4 - 4 * n) (drop (4 * n) list)) c
            (omega (arith, length-take (4 * n + 4 - 4 * n) (drop (4 * n) list), length-drop (4 * n) list))),
      );
    }

-- ---- the list of one byte more

-- what is listed of bytes x and y, i places after position k
unfoldable pub later : (k i : ℕ) (x y : ℕ) → List Change
later k i x y = cond (eqb x y) [] (record { at = k + i; was = x; is = y } ∷ [])

pub listed_suc : (k : ℕ) (a b : List ℕ) (i : ℕ) → i < length a → i < length b
    → listed k (take (suc i) a) (take (suc i) b) ≡ listed k (take i a) (take i b) ++ later k i (get_or a i 0) (get_or b i 0)
unfolding listed later
listed_suc k [] b i h l = absurd (omega arith)
listed_suc k (x ∷ a) [] i h l = absurd (omega arith)
listed_suc k (x ∷ a) (y ∷ b) zero h l =
    ap (λ (p : ℕ). cond (eqb x y) [] (record { at = p; was = x; is = y } ∷ [])) (sym (add-zero k))
listed_suc k (x ∷ a) (y ∷ b) (suc i) h l = go (eqb x y) (listed_suc (suc k) a b i (omega arith) (omega arith) ∙ ap (λ (p : ℕ). listed (suc k) (take i a) (take i b) ++ cond (eqb (get_or a i 0) (get_or b i 0)) [] (record { at = p; was = get_or a i 0; is = get_or b i 0 } ∷ [])) (suc-add k i ∙ sym (add-suc k i)))
  where
    go : (t : Bool)
        → listed (suc k) (take (suc i) a) (take (suc i) b)
        ≡ listed (suc k) (take i a) (take i b) ++ cond (eqb (get_or a i 0) (get_or b i 0)) [] (record { at = k + suc i; was = get_or a i 0; is = get_or b i 0 } ∷ [])
        → cond t (listed (suc k) (take (suc i) a) (take (suc i) b)) (record { at = k; was = x; is = y } ∷ listed (suc k) (take (suc i) a) (take (suc i) b))
        ≡ cond t (listed (suc k) (take i a) (take i b)) (record { at = k; was = x; is = y } ∷ listed (suc k) (take i a) (take i b))
        ++ cond (eqb (get_or a i 0) (get_or b i 0)) [] (record { at = k + suc i; was = get_or a i 0; is = get_or b i 0 } ∷ [])
    go true e = e
    go false e = ap (λ (l : List Change). record { at = k; was = x; is = y } ∷ l) e

flat_more : (l : List Change) (c : Change) → flat (l ++ (c ∷ [])) ≡ flat l ++ bytes_of c
unfolding flat
flat_more [] c = refl
flat_more (d ∷ l) c = ap (λ (t : List ℕ). bytes_of d ++ t) (flat_more l c)

-- four bytes more are written, and four zeros fewer are left
pub put : (l : List Change) (c : Change) (n : ℕ) (list : List ℕ) → n ≡ length l → n < 2352 → list ≡ flat l ++ replicate (9408 - 4 * n) 0
    → take (4 * n) list ++ (bytes_of c ++ drop (4 * n + 4) list) ≡ flat (l ++ (c ∷ [])) ++ replicate (9408 - 4 * (n + 1)) 0
put l c n list e h is =
    ap₂ (λ (a b : List ℕ). a ++ (bytes_of c ++ b)) front back ∙ sym (append_assoc (flat l) (bytes_of c) (replicate (9408 - 4 * (n + 1)) 0))
    ∙ ap (λ (a : List ℕ). a ++ replicate (9408 - 4 * (n + 1)) 0) (sym (flat_more l c))
  where
    front : take (4 * n) list ≡ flat l
    front = ap (take (4 * n)) is ∙ take_at (flat l) (replicate (9408 - 4 * n) 0) (4 * n) (omega (arith, length-flat l))

    place : 4 * n + 4 ≡ length (flat l) + 4
    place = omega (arith, length-flat l)

    left : 9408 - 4 * n ≡ suc (suc (suc (suc (9408 - 4 * (n + 1)))))
    left = omega arith

    back : drop (4 * n + 4) list ≡ replicate (9408 - 4 * (n + 1)) 0
    back =
        ap₂ (λ (k : ℕ) (t : List ℕ). drop k t) place is ∙ drop-append-add (flat l) (replicate (9408 - 4 * n) 0) 4
        ∙ ap (λ (k : ℕ). drop 4 (replicate k 0)) left
