-- Document 01's choice ("Channel bits"), in its words: of the allowed ones that with the smallest absolute DSV, and of equals the first in order of
-- preference. Only one is chosen.
-- Assumes nothing.
use Rattle.std.specs.Prelude.{◌≡◌, Bool, List, [], ◌∷◌, ℕ, ◌≤◌, ◌<◌, T, length, get_or}
use Rattle.std.proofs.Common.{sym, ap, ◌∙◌, subst, arith}
use Rattle.merging.specs.Chosen.{m100, m010, m001, m000}

-- all that may stand before a word, in order of preference
abbrev pub for_word : List (List ℕ)
for_word = m100 ∷ m010 ∷ m001 ∷ m000 ∷ []

-- and before a Sync Header
abbrev pub for_header : List (List ℕ)
for_header = m100 ∷ m000 ∷ []

-- m is chosen from a list in order of preference: it stands there and is allowed, no allowed one has a smaller absolute DSV, and each allowed one
-- before it has a larger
pub record Chosen (from : List (List ℕ)) (ok : List ℕ → Bool) (dsv : List ℕ → ℕ) (m : List ℕ) : Type 0 where
  pub place : ℕ
  pub stands : place < length from
  pub is : get_or from place [] ≡ m
  pub is_allowed : T (ok m)
  pub none_smaller : (k : ℕ) → k < length from → T (ok (get_or from k [])) → dsv m ≤ dsv (get_or from k [])
  pub earlier_larger : (k : ℕ) → k < place → T (ok (get_or from k [])) → dsv m < dsv (get_or from k [])

module _ {from : List (List ℕ)} {ok : List ℕ → Bool} {dsv : List ℕ → ℕ} where
  -- the one that is chosen does not stand before the other
  not-before : {m n : List ℕ} (a : Chosen from ok dsv m) (b : Chosen from ok dsv n) → a.place < b.place → ⊥
  not-before {m} {n} a b h =
      let at_a : T (ok (get_or from a.place [])) = subst (λ (x : List ℕ). T (ok x)) (sym a.is) a.is_allowed in
      let at_b : T (ok (get_or from b.place [])) = subst (λ (x : List ℕ). T (ok x)) (sym b.is) b.is_allowed in
      let larger : dsv n < dsv m = subst (λ (x : List ℕ). dsv n < dsv x) a.is (b.earlier_larger a.place h at_a) in
      let smaller : dsv m ≤ dsv n = subst (λ (x : List ℕ). dsv m ≤ dsv x) b.is (a.none_smaller b.place b.stands at_b) in
      omega arith

  -- ONLY ONE IS CHOSEN
  pub chosen_one : {m n : List ℕ} → Chosen from ok dsv m → Chosen from ok dsv n → m ≡ n
  chosen_one {m} {n} a b = sym a.is ∙ ap (λ (k : ℕ). get_or from k []) same ∙ b.is
    where
      same : a.place ≡ b.place
      same = omega (arith, not-before a b, not-before b a)
