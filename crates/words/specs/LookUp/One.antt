-- A guide's every entry is fixed: two guides coincide.
-- Assumes nothing.
use Rattle.std.specs.Prelude.{◌≡◌, Bool, ◌⊎◌, List, ℕ, ◌<◌, ◌≤◌, ◌%◌, eqb, get_or}
use Rattle.std.proofs.Common.{sym, ◌∙◌, subst, inl, inr, arith, eq-eqb, eqb-true, ext_get_or}
use Rattle.outcome.specs.First.{first_below}
use Rattle.outcome.specs.First.Found.{lt-or-le, first_below_lem}
use Rattle.words.specs.Words.{word_of}
use Rattle.words.specs.LookUp.{Free, Guide}

-- a word leaves the remainder i, or none does
module _ (i : ℕ) (P : Type 0) (some : (b : ℕ) → b < 256 → word_of b % 1351 ≡ i → P) (none : Free i → P) where
  leaves : ℕ → Bool
  leaves b = eqb (word_of b % 1351) i

  by_remainder : P
  unfolding leaves
  by_remainder = go (lt-or-le (first_below leaves 256) 256)
    where
      go : (first_below leaves 256 < 256) ⊎ (256 ≤ first_below leaves 256) → P
      go (inl l) = some (first_below leaves 256) l (eqb-true (word_of (first_below leaves 256) % 1351) i ((first_below_lem leaves 256).holds l))
      go (inr l) = none (λ b h e. (first_below_lem leaves 256).before b (omega arith) (eq-eqb (word_of b % 1351) i e))

-- each entry is a byte
pub guide_bytes : {g : List ℕ} → Guide g → (i : ℕ) → get_or g i 0 < 256
guide_bytes {g} d i =
    by_remainder i (get_or g i 0 < 256) (λ b h e. subst (λ (k : ℕ). get_or g k 0 < 256) e (subst (λ (x : ℕ). x < 256) (sym (d.leads b h)) h))
    (λ n. omega (arith, d.free i n))

-- TWO GUIDES COINCIDE
pub guide_one : {g h : List ℕ} → Guide g → Guide h → g ≡ h
guide_one {g} {h} d e =
    ext_get_or 0 g h (d.long ∙ sym e.long)
    (λ i l.
    by_remainder i (get_or g i 0 ≡ get_or h i 0) (λ b k p. subst (λ (j : ℕ). get_or g j 0 ≡ get_or h j 0) p (d.leads b k ∙ sym (e.leads b k)))
    (λ n. d.free i n ∙ sym (e.free i n)))
