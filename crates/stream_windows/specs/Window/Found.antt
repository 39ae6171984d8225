-- The pass over a stream bit by bit: its invariant, and what it finds.
-- Assumes nothing.
use Rattle.std.specs.Prelude.{◌≡◌, refl, true, false, List, [], ◌∷◌, ◌⊎◌, eqb, get_or}
use Rattle.std.proofs.Math.Path.{sym, ap}
use Rattle.std.proofs.Common.{ap₂, ◌∙◌, inl, inr, arith, below_more, eqb-true, lt-ltb, le-ltb, ne_eqb, eq-eqb}
use Rattle.std.proofs.Math.Bool.{Bool, cond, not}
use Prim.Native.Nat.{ℕ, ◌+◌, ◌*◌, ◌%◌, ◌≤◌, ◌<◌}
use Rattle.std.proofs.lemmas.Bool.{eqb-false}
use Rattle.std.proofs.Math.ListN.{length}
use Rattle.outcome.specs.First.Found.{lt-or-le, found_first}
use Rattle.outcome.specs.Say.{done, refused}
use Rattle.bits.specs.Bits.{unpack}
use Rattle.bits.proofs.Bits.Packed.{length-unpack}
use Rattle.stream_rules.specs.Offences.{judged, run_offends, header_offends, word_offends}
use Rattle.stream_rules.specs.Offences.Behind.{run-behind, header_behind, word_behind}
use Rattle.stream_rules.specs.Offences.Stream.{binary_judged, length-judged}
use Rattle.stream_rules.specs.Judging.{lowest, offence, first_offence, offence_say, verdict}
use Rattle.stream_windows.specs.Window.{led, window, run_in, head_wrong, word_wrong, offence_in}
use Rattle.stream_windows.specs.Window.Shows.{offence_is}
use Rattle.stream_windows.specs.Window.Onward.{window-lt, window-next}

-- the number k of an offence at bit p, or 0 for none, is the verdict on the stream
abbrev pub FoundSay : List ℕ → ℕ → ℕ → Type 0
FoundSay xs k p = cond (eqb k 0) (done []) (refused k (p ∷ [])) ≡ verdict (judged xs)

-- all that a search finds: the verdict, a position within nine Sections, and which numbers there are
pub record Finding (xs : List ℕ) (k p : ℕ) : Type 0 where
  pub says : FoundSay xs k p
  pub place_in : p ≤ 518616
  pub last_kind : (k ≡ 0 → ⊥) → (k ≡ 25 → ⊥) → (k ≡ 26 → ⊥) → k ≡ 27

-- nothing offends before bit p of n Sections, and v is the window there
pub record Passing (xs : List ℕ) (n p v : ℕ) : Type 0 where
  pub upto : p ≤ 57624 * n
  pub before : (q : ℕ) → q < p → offence (judged xs) q ≡ 0
  pub window_is : v ≡ window (judged xs) p
  pub small : v < 34359738368

-- where no kind of offence is, none is
pub none_of_three : (B : List ℕ) (p : ℕ) → run_offends B p ≡ false → header_offends B p ≡ false → word_offends B p ≡ false → offence B p ≡ 0
unfolding offence
none_of_three B p r h w = rw (r, h, w)

kinds : (a b c : Bool) → (lowest a b c ≡ 0 → ⊥) → (lowest a b c ≡ 25 → ⊥) → (lowest a b c ≡ 26 → ⊥) → lowest a b c ≡ 27
kinds true b c h i j = absurd (i refl)
kinds false true c h i j = absurd (j refl)
kinds false false true h i j = refl
kinds false false false h i j = absurd (h refl)

four_kinds : (k p v : ℕ) → k ≡ offence_in p v → (k ≡ 0 → ⊥) → (k ≡ 25 → ⊥) → (k ≡ 26 → ⊥) → k ≡ 27
unfolding offence_in
four_kinds k p v e h i j = e ∙ kinds (run_in v) (head_wrong p v) (word_wrong p v) (λ z. h (e ∙ z)) (λ z. i (e ∙ z)) (λ z. j (e ∙ z))

false-true : {A : Type 0} (t : Bool) → t ≡ false → t ≡ true → A
false-true t p q = let z : ◌≡◌ {A = ℕ} 0 1 = cc in absurd (omega arith)

module _ (xs : List ℕ) (n : ℕ) (l : length xs ≡ 7203 * n) where
  long : length (judged xs) ≡ 57624 * n + 24
  long = omega (arith, length-judged xs)

  none-behind : (q : ℕ) → 57624 * n < q → q < length (judged xs) → offence (judged xs) q ≡ 0
  none-behind q h k =
      let u : length (unpack xs) ≡ 57624 * n = omega (arith, length-unpack xs) in
      let m : length (unpack xs) % 588 ≡ 0 = omega arith in
      none_of_three (judged xs) q (run-behind (unpack xs) q (omega arith)) (header_behind (unpack xs) m q (omega arith) k) (word_behind (unpack xs) m q (omega arith) k)

  -- where it begins
  pub passing-start : (p v : ℕ) → p ≤ 57624 * n → ((q : ℕ) → q < p → offence (judged xs) q ≡ 0) → v ≡ window (judged xs) p → Passing xs n p v
  passing-start p v h g e =
      record { upto = h; before = g; window_is = e; small = rw e (window-lt (judged xs) (binary_judged xs) p (omega (arith, long))) }

  module _ (p v : ℕ) (g : Passing xs n p v) (k : ℕ) (e : k ≡ offence_in p v) where
    here : k ≡ offence (judged xs) p
    here = e ∙ ap (offence_in p) g.window_is ∙ sym (offence_is (judged xs) (binary_judged xs) p (omega (arith, long, g.upto)))

    upto_here : k ≡ 0 → (q : ℕ) → q < p + 1 → offence (judged xs) q ≡ 0
    upto_here z = below_more (λ q. offence (judged xs) q ≡ 0) p g.before (sym here ∙ z)

    -- a bit on
    pub passing_more : p < 57624 * n → k ≡ 0 → (b : ℕ) → b ≡ get_or (led (judged xs)) (p + 40) 0 → Passing xs n (p + 1) ((2 * v + b) % 34359738368)
    passing_more h z b q =
        record {
          upto = omega arith;
          before = upto_here z;
          window_is = sym (window-next (judged xs) (binary_judged xs) p (omega (arith, long)) ∙ ap₂ (λ (x y : ℕ). (2 * x + y) % 34359738368) (sym g.window_is) (sym q));
          small = omega arith;
        }

    found_say : (k ≡ 0 → ⊥) → FoundSay xs k p
    unfolding verdict first_offence
    found_say z =
        let B = judged xs in
        let f : ℕ → Bool = λ q. not (eqb (offence B q) 0) in
        let r : p ≡ first_offence B = found_first f (length B) p
        (record {
          within = omega (arith, g.upto, long);
          before = λ q h t. false-true (f q) (ap (λ (j : ℕ). not (eqb j 0)) (g.before q h)) t;
          holds = λ _. ap (λ (j : ℕ). not (eqb j 0)) (sym here) ∙ ap not (ne_eqb k 0 z);
        }) in
        ap (λ (t : Bool). cond t (done []) (refused k (p ∷ []))) (ne_eqb k 0 z)
        ∙ ap (λ (j : ℕ). refused j (p ∷ [])) here
        ∙ sym (ap (λ (q : ℕ). offence_say B (offence B q) q) (sym r) ∙ ap (λ (t : Bool). cond t (refused (offence B p) (p ∷ [])) (done [])) (lt-ltb p (length B) (omega (arith, g.upto, long))))

    -- none, to the Sync Header that follows
    none_say : 57624 * n ≤ p → k ≡ 0 → FoundSay xs k p
    unfolding verdict first_offence
    none_say h z =
        let B = judged xs in
        let m = length B in
        let f : ℕ → Bool = λ q. not (eqb (offence B q) 0) in
        let none : (q : ℕ) → q < m → offence B q ≡ 0 = λ q i. by q i (lt-or-le q (p + 1)) in
        let r : m ≡ first_offence B = found_first f m m
        (record {
          within = omega arith;
          before = λ q i t. false-true (f q) (ap (λ (j : ℕ). not (eqb j 0)) (none q i)) t;
          holds = λ i. absurd (omega arith);
        }) in
        ap (λ (t : Bool). cond t (done []) (refused k (p ∷ []))) (eq-eqb k 0 z)
        ∙ sym (ap (λ (q : ℕ). offence_say B (offence B q) q) (sym r) ∙ ap (λ (t : Bool). cond t (refused (offence B m) (m ∷ [])) (done [])) (le-ltb m m (omega arith)))
      where
        by : (q : ℕ) → q < length (judged xs) → (q < p + 1) ⊎ (p + 1 ≤ q) → offence (judged xs) q ≡ 0
        by q i (inl a) = upto_here z q a
        by q i (inr a) = none-behind q (omega arith) i

    module _ (few : n ≤ 9) where
      -- an offence
      pub passing-found : (k ≡ 0 → ⊥) → Finding xs k p
      passing-found z = record { says = found_say z; place_in = omega (arith, g.upto); last_kind = four_kinds k p v e }

      -- an offence at the last bit, or none
      pub passing_all : 57624 * n ≤ p → Finding xs k p
      passing_all h = record { says = go (eqb k 0) refl; place_in = omega (arith, g.upto); last_kind = four_kinds k p v e }
        where
          go : (t : Bool) → eqb k 0 ≡ t → FoundSay xs k p
          go true q = none_say h (eqb-true k 0 q)
          go false q = found_say (eqb-false k 0 q)
