-- The answer is the first offence: of several the earliest bit counts, and at one bit the lowest number; a stream without any is done.
-- Assumes nothing.
use Rattle.std.specs.Prelude.{◌≡◌, Bool, ◌⊎◌, ℕ, ◌<◌, eqb}
use Rattle.std.proofs.Math.Path.{refl, sym, ap, subst}
use Rattle.std.proofs.Common.{◌∙◌, inl, inr, arith}
use Rattle.std.proofs.Math.Bool.{true, false, cond, not}
use mathlib.Core.List.{List, [], ◌∷◌}
use borrow.Author.Tests.{ltb-true, ltb-false, eqb-true, not-false, lt-ltb, le-ltb}
use Rattle.std.proofs.Math.Dec.{ltb}
use Rattle.std.proofs.Math.ListN.{length}
use Rattle.outcome.specs.First.{First}
use Rattle.outcome.specs.First.Found.{first_below_lem, found_first}
use Rattle.outcome.specs.Say.{Say, done, refused}
use Rattle.outcome.specs.Say.Refusals.{never, demand_met, demand_unmet}
use Rattle.stream_rules.specs.Offences.{judged, run_offends, header_offends, word_offends}
use Rattle.stream_rules.specs.Judging.{lowest, offence, first_offence, offence_say, verdict, right_length, judging}

-- nothing is wrong at bit p
pub record NoOffence (B : List ℕ) (p : ℕ) : Type 0 where
  pub run : run_offends B p ≡ false
  pub head : header_offends B p ≡ false
  pub word : word_offends B p ≡ false

-- k is the lowest number that is wrong at bit p
abbrev pub Lowest : List ℕ → ℕ → ℕ → Type 0
Lowest B k p =
    ((k ≡ 25) × (run_offends B p ≡ true))
    ⊎ (((k ≡ 26) × (run_offends B p ≡ false) × (header_offends B p ≡ true))
    ⊎ ((k ≡ 27) × (run_offends B p ≡ false) × (header_offends B p ≡ false) × (word_offends B p ≡ true)))

-- k at bit p is the first offence of a stream: nothing is wrong at an earlier bit, and nothing with a lower number at this one
pub record FirstOffence (B : List ℕ) (k p : ℕ) : Type 0 where
  pub within : p < length B
  pub is : Lowest B k p
  pub before : (q : ℕ) → q < p → NoOffence B q

-- ---- the number at a bit

true-false : {A : Type 0} (t : Bool) → t ≡ true → t ≡ false → A
true-false t p q = let z : ◌≡◌ {A = ℕ} 0 1 = cc in absurd (omega arith)

lowest-none : (a b c : Bool) → lowest a b c ≡ 0 → (a ≡ false) × (b ≡ false) × (c ≡ false)
lowest-none true b c e = let z : ◌≡◌ {A = ℕ} 25 0 = e in absurd (omega (arith, z))
lowest-none false true c e = let z : ◌≡◌ {A = ℕ} 26 0 = e in absurd (omega (arith, z))
lowest-none false false true e = let z : ◌≡◌ {A = ℕ} 27 0 = e in absurd (omega (arith, z))
lowest-none false false false e = (refl, refl, refl)

lowest-some : (a b c : Bool) → (lowest a b c ≡ 0 → ⊥)
    → ((lowest a b c ≡ 25) × (a ≡ true)) ⊎ (((lowest a b c ≡ 26) × (a ≡ false) × (b ≡ true)) ⊎ ((lowest a b c ≡ 27) × (a ≡ false) × (b ≡ false) × (c ≡ true)))
lowest-some true b c e = inl (refl, refl)
lowest-some false true c e = inr (inl (refl, refl, refl))
lowest-some false false true e = inr (inr (refl, refl, refl, refl))
lowest-some false false false e = absurd (e refl)

module _ (B : List ℕ) where
  offends : ℕ → Bool
  offends p = not (eqb (offence B p) 0)

  none_here : (p : ℕ) → (offends p ≡ true → ⊥) → NoOffence B p
  unfolding offends offence
  none_here p h = go (offends p) refl
    where
      go : (t : Bool) → offends p ≡ t → NoOffence B p
      go true e = absurd (h e)
      go false e =
          let l = lowest-none (run_offends B p) (header_offends B p) (word_offends B p) (eqb-true (offence B p) 0 (not-false (eqb (offence B p) 0) e)) in
          record { run = l.0; head = l.1; word = l.2 }

  here_none : (p : ℕ) → NoOffence B p → offends p ≡ true → ⊥
  unfolding offends offence
  here_none p c e =
      let z : offence B p ≡ 0 = rw (c.run, c.head, c.word) in
      true-false (offends p) e (ap (λ (k : ℕ). not (eqb k 0)) z)

  here : (p : ℕ) → offends p ≡ true → Lowest B (offence B p) p
  unfolding offends offence
  here p e =
      lowest-some (run_offends B p) (header_offends B p) (word_offends B p)
      (λ z. true-false (offends p) e (ap (λ (k : ℕ). not (eqb k 0)) z))

  lowest_is : (k p : ℕ) → Lowest B k p → (offence B p ≡ k) × (offends p ≡ true)
  unfolding offends offence
  lowest_is k p (inl (a, b)) = (rw (a, b), rw b)
  lowest_is k p (inr (inl (a, b, c))) = (rw (a, b, c), rw (b, c))
  lowest_is k p (inr (inr (a, b, c, d))) = (rw (a, b, c, d), rw (b, c, d))

  first : First (λ p. offends p ≡ true) (length B) (first_offence B)
  unfolding offends first_offence
  first = first_below_lem (λ p. not (eqb (offence B p) 0)) (length B)

  firstly : (r : ℕ) → First (λ p. offends p ≡ true) (length B) r → r ≡ first_offence B
  unfolding offends first_offence
  firstly r f = found_first (λ p. not (eqb (offence B p) 0)) (length B) r f

  -- ---- the verdict

  pub verdict_done : ((p : ℕ) → p < length B → NoOffence B p) → verdict B ≡ done []
  unfolding verdict
  verdict_done clean =
      let m = length B in
      let e : m ≡ first_offence B = firstly m (record { within = omega arith; before = λ p h. here_none p (clean p (omega arith)); holds = λ l. absurd (omega arith) }) in
      ap (λ (r : ℕ). offence_say B (offence B r) r) (sym e) ∙ rw (le-ltb m m (omega arith))

  pub done_verdict : verdict B ≡ done [] → (p : ℕ) → p < length B → NoOffence B p
  unfolding verdict
  done_verdict d p h = go (ltb (first_offence B) (length B)) refl d
    where
      go : (t : Bool) → ltb (first_offence B) (length B) ≡ t → cond t (refused (offence B (first_offence B)) (first_offence B ∷ [])) (done []) ≡ done [] → NoOffence B p
      go true e q = never q
      go false e q = none_here p (first.before p (omega (arith, ltb-false (first_offence B) (length B) e)))

  number_of : Say → ℕ
  number_of (done vs) = 0
  number_of (refused k vs) = k

  values_of : Say → List ℕ
  values_of (done vs) = []
  values_of (refused k vs) = vs

  -- what comes back with a refusal is one bit position, the first offence
  pub record Said (k : ℕ) (vs : List ℕ) : Type 0 where
    pub place : ℕ
    pub values : vs ≡ place ∷ []
    pub is_first : FirstOffence B k place

  pub refused_verdict : (k : ℕ) (vs : List ℕ) → verdict B ≡ refused k vs → Said k vs
  unfolding verdict number_of values_of
  refused_verdict k vs d = go (ltb (first_offence B) (length B)) refl d
    where
      go : (t : Bool) → ltb (first_offence B) (length B) ≡ t → cond t (refused (offence B (first_offence B)) (first_offence B ∷ [])) (done []) ≡ refused k vs → Said k vs
      go true e q =
          let r = first_offence B in
          let l : r < length B = ltb-true r (length B) e in
          record {
            place = r;
            values = sym (ap values_of q);
            is_first =
                record {
                  within = omega arith;
                  is = subst (λ (j : ℕ). Lowest B j r) (ap number_of q) (here r (first.holds l));
                  before = λ p h. none_here p (first.before p h);
                };
          }
      go false e q = never (sym q)

  -- and the first offence comes back
  pub verdict_refused : (k p : ℕ) → FirstOffence B k p → verdict B ≡ refused k (p ∷ [])
  unfolding verdict
  verdict_refused k p f =
      let l = lowest_is k p f.is in
      let e : p ≡ first_offence B = firstly p (record { within = omega (arith, f.within); before = λ q h. here_none q (f.before q h); holds = λ _. l.1 }) in
      ap (λ (r : ℕ). offence_say B (offence B r) r) (sym e) ∙ rw (lt-ltb p (length B) (omega (arith, f.within)), l.0)

-- ---- a call

-- of another length 1 comes back
pub wrong-length : (channel : List ℕ) → right_length (length channel) ≡ false → judging channel ≡ refused 1 []
unfolding judging
wrong-length channel e = demand_unmet (right_length (length channel)) 1 (verdict (judged channel)) e

module _ (channel : List ℕ) (right : right_length (length channel) ≡ true) where
  judging_is : judging channel ≡ verdict (judged channel)
  unfolding judging
  judging_is = demand_met (right_length (length channel)) 1 (verdict (judged channel)) right

  -- THE FIRST OFFENCE comes back, with its bit position
  pub first-offence : (k : ℕ) (vs : List ℕ) → judging channel ≡ refused k vs → Said (judged channel) k vs
  first-offence k vs e = refused_verdict (judged channel) k vs (sym judging_is ∙ e)

  -- and nothing else does
  pub offence-first : (k p : ℕ) → FirstOffence (judged channel) k p → judging channel ≡ refused k (p ∷ [])
  offence-first k p f = judging_is ∙ verdict_refused (judged channel) k p f

  -- what is done has no offence at any bit
  pub done_clean : judging channel ≡ done [] → (p : ℕ) → p < length (judged channel) → NoOffence (judged channel) p
  done_clean e = done_verdict (judged channel) (sym judging_is ∙ e)

  -- and what has none is done
  pub clean_done : ((p : ℕ) → p < length (judged channel) → NoOffence (judged channel) p) → judging channel ≡ done []
  clean_done c = judging_is ∙ verdict_done (judged channel) c
