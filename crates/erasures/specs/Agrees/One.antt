-- A word with at most as many marks as its code has sums has at most one codeword that agrees with it.
-- Assumes nothing.
use Rattle.std.specs.Prelude.{◌≡◌, refl, List, [], ◌∷◌, ℕ, zero, suc, ◌+◌, ◌≤◌, ◌<◌, length, get_or, set}
use Rattle.std.proofs.Common.{sym, ap, ◌∙◌, arith, get_or-set_other}
use Rattle.std.proofs.Math.Decide.{ℕ_discrete}
use Rattle.codeword.specs.Code.{changes, weight}
use Rattle.codeword.specs.Code.Changes.{unlike_same, unlike_other, unlike_le}
use Rattle.codeword.specs.Code.Distance.{codewords_differ}
use Rattle.erasures.specs.Agrees.{Agrees}

-- words that agree where there is no mark differ in no more places than are marked
pub changes-marked : (m a b : List ℕ) → ((i : ℕ) → i < length a → get_or m i 0 ≡ 0 → get_or a i 0 ≡ get_or b i 0) → changes a b ≤ weight m
unfolding changes weight
changes-marked m [] b h = omega arith
changes-marked m (x ∷ a) [] h = omega arith
changes-marked [] (x ∷ a) (y ∷ b) h =
    omega (arith, unlike_same x y (h 0 (omega arith) refl), changes-marked [] a b (λ i l. h (suc i) (omega arith)))
changes-marked (v ∷ m) (x ∷ a) (y ∷ b) h = go (ℕ_discrete v 0) (changes-marked m a b (λ i l. h (suc i) (omega arith)))
  where
    go : Dec (v ≡ 0) → changes a b ≤ weight m → changes (x ∷ a) (y ∷ b) ≤ weight (v ∷ m)
    go (yes e) r = omega (arith, unlike_same x y (h 0 (omega arith) e))
    go (no n) r = omega (arith, unlike_other v 0 n, unlike_le x y)

pub agrees-one : (J : ℕ) (m w a b : List ℕ) → length w ≤ 255 → weight m ≤ J → Agrees J m w a → Agrees J m w b → a ≡ b
agrees-one J m w a b k l p q =
    codewords_differ J a b (p.long ∙ sym q.long) (omega (arith, p.long)) p.bytes q.bytes p.code q.code
    (omega (
      arith,
      changes-marked m a b (λ i h z. p.kept i (omega (arith, p.long)) z ∙ sym (q.kept i (omega (arith, p.long)) z)),
    ))

-- ---- a wrong byte besides the marked ones

weight-set : (m : List ℕ) (p v : ℕ) → weight (set m p v) ≤ weight m + 1
unfolding weight
weight-set [] p v = omega arith
weight-set (x ∷ m) zero v = omega (arith, unlike_le v 0)
weight-set (x ∷ m) (suc p) v = omega (arith, weight-set m p v)

-- With fewer marks than sums a wrong unmarked byte is detected: where c was written, and w differs from it in marked bytes and in the unmarked one at p,
-- no codeword agrees with w.
pub wrong_byte_detected : (J p : ℕ) (m w c a : List ℕ) → length w ≤ 255 → weight m < J → p < length w → get_or m p 0 ≡ 0
    → Agrees J (set m p 1) w c → (get_or c p 0 ≡ get_or w p 0 → ⊥) → Agrees J m w a → ⊥
wrong_byte_detected J p m w c a k l h z q n r =
    n (ap (λ (t : List ℕ). get_or t p 0) (agrees-one J (set m p 1) w c a k (omega (arith, weight-set m p 1)) q too) ∙ r.kept p h z)
  where
    unmarked : (i : ℕ) → get_or (set m p 1) i 0 ≡ 0 → Dec (i ≡ p) → get_or m i 0 ≡ 0
    unmarked i e (yes s) = ap (λ (j : ℕ). get_or m j 0) s ∙ z
    unmarked i e (no s) = sym (get_or-set_other m p i 1 0 s) ∙ e

    too : Agrees J (set m p 1) w a
    too =
        record {
          long = r.long;
          bytes = r.bytes;
          kept = λ i b e. r.kept i b (unmarked i e (ℕ_discrete i p));
          code = r.code;
        }
