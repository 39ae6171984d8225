-- What holds of the Merging bits to choose from holds of the better of two, and so of those that are chosen.
-- Assumes nothing.
use Rattle.std.specs.Prelude.{◌≡◌, refl, Bool, true, false, cond, ◌||◌, List, ℕ, T, ltb}
use Rattle.std.proofs.Common.{sym, ap, ◌∙◌, subst}
use Rattle.merging.specs.Chosen.{better, before_word, before_header, m100, m010, m001, m000}

by_cond : (P : List ℕ → Type 0) (t : Bool) (a b : List ℕ) → P a → P b → P (cond t a b)
by_cond P true a b p q = p
by_cond P false a b p q = q

-- what holds of both holds of the better one
pub better_keeps : (P : List ℕ → Type 0) (ok : List ℕ → Bool) (dsv : List ℕ → ℕ) (a b : List ℕ) → P a → P b → P (better ok dsv a b)
better_keeps P ok dsv a b p q =
    by_cond P (ok b) (cond (ok a) (cond (ltb (dsv b) (dsv a)) b a) b) a
    (by_cond P (ok a) (cond (ltb (dsv b) (dsv a)) b a) b (by_cond P (ltb (dsv b) (dsv a)) b a q p) q) p

-- tests that agree on both choose the same
pub better-same : (ok ok' : List ℕ → Bool) (dsv : List ℕ → ℕ) (a b : List ℕ) → ok a ≡ ok' a → ok b ≡ ok' b → better ok dsv a b ≡ better ok' dsv a b
better-same ok ok' dsv a b p q = rw (p, q)

-- the better one is allowed if one of the two is
better-allowed : (ok : List ℕ → Bool) (dsv : List ℕ → ℕ) (a b : List ℕ) → T (ok a || ok b) → T (ok (better ok dsv a b))
better-allowed ok dsv a b t = go (ok a) (ok b) (ltb (dsv b) (dsv a)) refl refl t
  where
    go : (x y z : Bool) → ok a ≡ x → ok b ≡ y → T (x || y) → T (ok (cond y (cond x (cond z b a) b) a))
    go true true true p q u = subst T (sym q) tt
    go true true false p q u = subst T (sym p) tt
    go true false z p q u = subst T (sym p) tt
    go false true z p q u = subst T (sym q) tt
    go false false z p q u = absurd u

or_more : (a b c d : Bool) → T (a || (b || (c || d))) → T (((a || b) || c) || d)
or_more true b c d t = tt
or_more false true c d t = tt
or_more false false c d t = t

or-first : (a a' b : Bool) → (T a → T a') → T (a || b) → T (a' || b)
or-first true true b f t = tt
or-first true false b f t = absurd (f tt)
or-first false true b f t = tt
or-first false false b f t = t

-- ---- before a word

module _ (ok : List ℕ → Bool) (dsv : List ℕ → ℕ) where
  -- what holds of all four holds of the one that is chosen
  pub word_keeps : (P : List ℕ → Type 0) → P m100 → P m010 → P m001 → P m000 → P (before_word ok dsv)
  unfolding before_word
  word_keeps P p q r s =
      better_keeps P ok dsv (better ok dsv (better ok dsv m100 m010) m001) m000
      (better_keeps P ok dsv (better ok dsv m100 m010) m001 (better_keeps P ok dsv m100 m010 p q) r) s

  -- which is allowed if one of them is
  pub word_allowed : T (ok m100 || (ok m010 || (ok m001 || ok m000))) → T (ok (before_word ok dsv))
  unfolding before_word
  word_allowed t =
      let b1 = better ok dsv m100 m010 in
      let b2 = better ok dsv b1 m001 in
      better-allowed ok dsv b2 m000
      (or-first ((ok m100 || ok m010) || ok m001) (ok b2) (ok m000)
      (λ u. better-allowed ok dsv b1 m001 (or-first (ok m100 || ok m010) (ok b1) (ok m001) (better-allowed ok dsv m100 m010) u))
      (or_more (ok m100) (ok m010) (ok m001) (ok m000) t))

  -- and so before a Sync Header
  pub header_keeps : (P : List ℕ → Type 0) → P m100 → P m000 → P (before_header ok dsv)
  unfolding before_header
  header_keeps P p q = better_keeps P ok dsv m100 m000 p q

  -- the one that is chosen is allowed if one of them is
  pub header_allowed : T (ok m100 || ok m000) → T (ok (before_header ok dsv))
  unfolding before_header
  header_allowed t = better-allowed ok dsv m100 m000 t

-- tests that agree on all four choose the same
pub word_same : (ok ok' : List ℕ → Bool) (dsv : List ℕ → ℕ) → ok m100 ≡ ok' m100 → ok m010 ≡ ok' m010 → ok m001 ≡ ok' m001 → ok m000 ≡ ok' m000
    → before_word ok dsv ≡ before_word ok' dsv
unfolding before_word
word_same ok ok' dsv p q r s =
    let Q : List ℕ → Type 0 = λ m. ok m ≡ ok' m in
    let b1 = better ok dsv m100 m010 in
    let e1 : b1 ≡ better ok' dsv m100 m010 = better-same ok ok' dsv m100 m010 p q in
    let q1 : Q b1 = better_keeps Q ok dsv m100 m010 p q in
    let b2 = better ok dsv b1 m001 in
    let e2 : b2 ≡ better ok' dsv b1 m001 = better-same ok ok' dsv b1 m001 q1 r in
    let q2 : Q b2 = better_keeps Q ok dsv b1 m001 q1 r in
    better-same ok ok' dsv b2 m000 q2 s
    ∙ ap (λ (x : List ℕ). better ok' dsv x m000) (e2 ∙ ap (λ (x : List ℕ). better ok' dsv x m001) e1)
