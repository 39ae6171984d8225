-- The better of two, again and again, is document 01's choice wherever one is allowed, and nothing else is.
-- Assumes nothing.
use Rattle.std.specs.Prelude.{◌≡◌, refl, Bool, true, false, cond, ◌⊎◌, ℕ, zero, suc, ◌≤◌, ◌<◌, T, ltb, length, get_or}
use Rattle.std.proofs.Common.{sym, ap, ◌∙◌, inl, inr, eq-or-lt_of_le, not-suc-le-zero, arith, ltb-true, ltb-false, length-append}
use Rattle.std.proofs.Math.Path.{subst}
use mathlib.Core.List.{List, [], ◌∷◌, ◌++◌, append_assoc, append-nil}
use Rattle.std.proofs.Math.ListN.{get_or-append}
use Rattle.std.proofs.Math.Seq.{get_or-append_seam}
use Rattle.outcome.specs.Table.Entries.{of_true}
use Rattle.merging.specs.Chosen.{better, before_word, before_header, m100, m010, m001, m000}
use Rattle.merging.specs.Chosen.One.{Chosen, for_word, for_header, chosen_one}

module _ (ok : List ℕ → Bool) (dsv : List ℕ → ℕ) where
  -- the best of a and then the others
  unfoldable best : List ℕ → List (List ℕ) → List ℕ
  best a [] = a
  best a (c ∷ cs) = best (better ok dsv a c) cs

  -- a is chosen from those seen so far, or none of them is allowed
  abbrev BestYet : List (List ℕ) → List ℕ → Type 0
  BestYet seen a = Chosen seen ok dsv a ⊎ ((ok a ≡ false) × ((k : ℕ) → k < length seen → T (ok (get_or seen k [])) → ⊥))

  -- what holds of each and of one more
  one_more : (P : List ℕ → Type 0) (seen : List (List ℕ)) (c : List ℕ) → ((k : ℕ) → k < length seen → P (get_or seen k [])) → P c
      → (k : ℕ) → k < length (seen ++ (c ∷ [])) → P (get_or (seen ++ (c ∷ [])) k [])
  one_more P seen c each p k h = go (eq-or-lt_of_le l)
    where
      l : k ≤ length seen
      l = omega (arith, length-append seen (c ∷ []))

      go : (k ≡ length seen) ⊎ (k < length seen) → P (get_or (seen ++ (c ∷ [])) k [])
      go (inl e) = subst P (sym (ap (λ (i : ℕ). get_or (seen ++ (c ∷ [])) i []) e ∙ get_or-append_seam seen c [] [])) p
      go (inr g) = subst P (sym (get_or-append seen (c ∷ []) [] k g)) (each k g)

  module _ (seen : List (List ℕ)) (a c : List ℕ) where
    old_at : (k : ℕ) → k < length seen → get_or (seen ++ (c ∷ [])) k [] ≡ get_or seen k []
    old_at k l = get_or-append seen (c ∷ []) [] k l

    -- the one that is chosen stays so where one more is not allowed or has no smaller DSV
    stays : (T (ok c) → dsv a ≤ dsv c) → Chosen seen ok dsv a → Chosen (seen ++ (c ∷ [])) ok dsv a
    stays g h =
        record {
          place = h.place;
          stands = omega (arith, length-append seen (c ∷ []), h.stands);
          is = old_at h.place h.stands ∙ h.is;
          is_allowed = h.is_allowed;
          none_smaller = one_more (λ x. T (ok x) → dsv a ≤ dsv x) seen c h.none_smaller g;
          earlier_larger = λ k l.
              subst (λ x. T (ok x) → dsv a < dsv x) (sym (old_at k (omega (arith, h.stands)))) (h.earlier_larger k l);
        }

    -- one more that is allowed is chosen where each allowed one before it has a larger DSV
    takes-over : T (ok c) → ((k : ℕ) → k < length seen → T (ok (get_or seen k [])) → dsv c < dsv (get_or seen k [])) → Chosen (seen ++ (c ∷ [])) ok dsv c
    takes-over t less =
        record {
          place = length seen;
          stands = omega (arith, length-append seen (c ∷ []));
          is = get_or-append_seam seen c [] [];
          is_allowed = t;
          none_smaller = one_more (λ x. T (ok x) → dsv c ≤ dsv x) seen c (λ k l u. omega (arith, less k l u)) (λ u. omega arith);
          earlier_larger = λ k l. subst (λ x. T (ok x) → dsv c < dsv x) (sym (old_at k l)) (less k l);
        }

    -- so the better of the two is the choice from one more
    one_on : BestYet seen a → BestYet (seen ++ (c ∷ [])) (better ok dsv a c)
    one_on = go (ok c) (ok a) (ltb (dsv c) (dsv a)) refl refl refl
      where
        go : (x y z : Bool) → ok c ≡ x → ok a ≡ y → ltb (dsv c) (dsv a) ≡ z → BestYet seen a → BestYet (seen ++ (c ∷ [])) (cond x (cond y (cond z c a) c) a)
        go false y z p q r (inl h) = inl (stays (λ t. absurd (subst T p t)) h)
        go false y z p q r (inr h) = inr (h.0, one_more (λ x. T (ok x) → ⊥) seen c h.1 (λ t. subst T p t))
        go true true true p q r (inl h) =
            inl (takes-over (of_true (ok c) p) (λ k l u. omega (arith, ltb-true (dsv c) (dsv a) r, h.none_smaller k l u)))
        go true true false p q r (inl h) = inl (stays (λ t. ltb-false (dsv c) (dsv a) r) h)
        go true false z p q r (inl h) = absurd (subst T q h.is_allowed)
        go true true z p q r (inr h) = absurd (subst T (sym q ∙ h.0) tt)
        go true false z p q r (inr h) = inl (takes-over (of_true (ok c) p) (λ k l u. absurd (h.1 k l u)))

  first_one : (a : List ℕ) → BestYet (a ∷ []) a
  first_one a = go (ok a) refl
    where
      only : (P : List ℕ → Type 0) → P a → (k : ℕ) → k < 1 → P (get_or (a ∷ []) k [])
      only P p zero h = p
      only P p (suc k) h = absurd (omega arith)

      go : (x : Bool) → ok a ≡ x → BestYet (a ∷ []) a
      go true p =
          inl
          (record {
            place = 0;
            stands = omega arith;
            is = refl;
            is_allowed = of_true (ok a) p;
            none_smaller = only (λ x. T (ok x) → dsv a ≤ dsv x) (λ t. omega arith);
            earlier_larger = λ k l. absurd (not-suc-le-zero l);
          })
      go false p = inr (p, only (λ x. T (ok x) → ⊥) (λ t. subst T p t))

  all_on : (seen cs : List (List ℕ)) (a : List ℕ) → BestYet seen a → BestYet (seen ++ cs) (best a cs)
  unfolding best
  all_on seen [] a h = subst (λ (l : List (List ℕ)). BestYet l a) (sym (append-nil seen)) h
  all_on seen (c ∷ cs) a h =
      subst (λ (l : List (List ℕ)). BestYet l (best (better ok dsv a c) cs)) (append_assoc seen (c ∷ []) cs)
      (all_on (seen ++ (c ∷ [])) cs (better ok dsv a c) (one_on seen a c h))

  -- THE FOLD'S ANSWER IS CHOSEN where one is allowed
  chosen_is : (a : List ℕ) (cs : List (List ℕ)) (k : ℕ) → k < length (a ∷ cs) → T (ok (get_or (a ∷ cs) k [])) → Chosen (a ∷ cs) ok dsv (best a cs)
  chosen_is a cs k h t = go (all_on (a ∷ []) cs a (first_one a))
    where
      go : BestYet (a ∷ cs) (best a cs) → Chosen (a ∷ cs) ok dsv (best a cs)
      go (inl c) = c
      go (inr n) = absurd (n.1 k h t)

  -- so is what stands before a word, where some Merging bits are allowed
  pub chosen_word_lem : (k : ℕ) → k < 4 → T (ok (get_or for_word k [])) → Chosen for_word ok dsv (before_word ok dsv)
  unfolding best before_word
  chosen_word_lem k h t = chosen_is m100 (m010 ∷ m001 ∷ m000 ∷ []) k h t

  -- and what stands before a Sync Header
  pub chosen_header : (k : ℕ) → k < 2 → T (ok (get_or for_header k [])) → Chosen for_header ok dsv (before_header ok dsv)
  unfolding best before_header
  chosen_header k h t = chosen_is m100 (m000 ∷ []) k h t

  -- and nothing else is chosen
  pub chosen_word_one : {m : List ℕ} → Chosen for_word ok dsv m → m ≡ before_word ok dsv
  chosen_word_one c = chosen_one c (chosen_word_lem c.place c.stands (subst (λ (x : List ℕ). T (ok x)) (sym c.is) c.is_allowed))

  -- before a Sync Header neither
  pub chosen_header_one : {m : List ℕ} → Chosen for_header ok dsv m → m ≡ before_header ok dsv
  chosen_header_one c = chosen_one c (chosen_header c.place c.stands (subst (λ (x : List ℕ). T (ok x)) (sym c.is) c.is_allowed))
