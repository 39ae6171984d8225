-- A loop that fills a buffer from the front, one place or one part a turn.
-- Assumes nothing.
use Rattle.std.specs.Prelude.{◌≡◌, refl, List, [], ◌∷◌, ◌++◌, ℕ, zero, suc, ◌+◌, ◌<◌, ◌≤◌, length, set, take, drop, get_or}
use Rattle.std.proofs.Common.{sym, ap, ◌∙◌, subst, append-nil, not-suc-le-zero, le_of_suc-le-suc, le_of_eq, suc-add, zero-add, add-one, arith, drop_of_length-le, length-append, length-take, length-drop, take_all}
use Rattle.outcome.specs.Buffer.{grown, Filling}

pub length-grown : (d s : List ℕ) (n : ℕ) → n ≤ length d → n ≤ length s → length (grown d s n) ≡ length d
length-grown d s n h k = omega (arith, length-append (take n s) (drop n d), length-take n s, length-drop n d)

-- ---- one place a turn

grow_suc : (n v : ℕ) (d s : List ℕ) → n < length d → n < length s → v ≡ get_or s n 0 → set (grown d s n) n v ≡ grown d s (suc n)
grow_suc n v [] s l k e = absurd (not-suc-le-zero l)
grow_suc n v (x ∷ d) [] l k e = absurd (not-suc-le-zero k)
grow_suc zero v (x ∷ d) (y ∷ s) l k e = ap (λ (z : ℕ). z ∷ d) e
grow_suc (suc n) v (x ∷ d) (y ∷ s) l k e = ap (λ (t : List ℕ). y ∷ t) (grow_suc n v d s (le_of_suc-le-suc l) (le_of_suc-le-suc k) e)

pub grow_more : (n v : ℕ) (d s : List ℕ) → n < length d → n < length s → v ≡ get_or s n 0 → set (grown d s n) n v ≡ grown d s (n + 1)
grow_more n v d s l k e = subst (λ (m : ℕ). set (grown d s n) n v ≡ grown d s m) (sym (add-one n)) (grow_suc n v d s l k e)

-- ---- a part of m places a turn

pub grow_part : (n m : ℕ) (d s : List ℕ) → n + m ≤ length d → n + m ≤ length s
    → take n (grown d s n) ++ (take m (drop n s) ++ drop (n + m) (grown d s n)) ≡ grown d s (n + m)
grow_part zero m d s l k = rw zero-add
grow_part (suc n) m [] s l k = absurd (omega arith)
grow_part (suc n) m (x ∷ d) [] l k = absurd (omega arith)
grow_part (suc n) m (x ∷ d) (y ∷ s) l k = rw suc-add (ap (λ (t : List ℕ). y ∷ t) (grow_part n m d s (omega arith) (omega arith)))

-- ---- what is not written yet is as it was

pub grown_rest : (n k : ℕ) (d s : List ℕ) → n ≤ k → n ≤ length d → n ≤ length s → get_or (grown d s n) k 0 ≡ get_or d k 0
grown_rest zero k d s h l m = refl
grown_rest (suc n) k d [] h l m = absurd (not-suc-le-zero m)
grown_rest (suc n) k [] (y ∷ s) h l m = absurd (not-suc-le-zero l)
grown_rest (suc n) zero (x ∷ d) (y ∷ s) h l m = absurd (not-suc-le-zero h)
grown_rest (suc n) (suc k) (x ∷ d) (y ∷ s) h l m =
    grown_rest n k d s (le_of_suc-le-suc h) (le_of_suc-le-suc l) (le_of_suc-le-suc m)

-- ---- the last turn is done

pub grow_all : (d s : List ℕ) (n : ℕ) → length d ≡ n → length s ≡ n → grown d s n ≡ s
grow_all d s n e f =
    ap (λ (t : List ℕ). t ++ drop n d) (take_all n s (le_of_eq f)) ∙ ap (λ (t : List ℕ). s ++ t) (drop_of_length-le d (le_of_eq e)) ∙ append-nil s

pub filling-none : (d s : List ℕ) → length d ≡ length s → Filling d s 0 d
filling-none d s e = record { fits = e; upto = omega arith; is = refl }

module _ {d s out : List ℕ} {n : ℕ} (f : Filling d s n out) where
  pub filling_long : length out ≡ length d
  filling_long = ap length f.is ∙ length-grown d s n (omega (arith, f.fits, f.upto)) f.upto

  pub filling_more : (v : ℕ) → n < length s → v ≡ get_or s n 0 → Filling d s (n + 1) (set out n v)
  filling_more v h e =
      record {
        fits = f.fits;
        upto = omega arith;
        is = ap (λ (o : List ℕ). set o n v) f.is ∙ grow_more n v d s (omega (arith, f.fits)) h e;
      }

  pub filling-part : (m : ℕ) (part : List ℕ) → n + m ≤ length s → part ≡ take m (drop n s)
      → Filling d s (n + m) (take n out ++ (part ++ drop (n + m) out))
  filling-part m part h e =
      record {
        fits = f.fits;
        upto = h;
        is = rw (e, f.is) (grow_part n m d s (omega (arith, f.fits)) h);
      }

  pub filling_all : length s ≤ n → out ≡ s
  filling_all h =
      let e : n ≡ length s = omega (arith, f.upto) in
      f.is ∙ grow_all d s n (omega (arith, f.fits)) (sym e)

  pub filling_rest : (k : ℕ) → n ≤ k → get_or out k 0 ≡ get_or d k 0
  filling_rest k h = ap (λ (o : List ℕ). get_or o k 0) f.is ∙ grown_rest n k d s h (omega (arith, f.fits, f.upto)) f.upto
