-- The invariant of the loop over all bytes, and the ways out of listing.
-- Assumes nothing.
use mathlib.Core.Path.{◌≡◌, refl, sym, ap, ap₂, ◌∙◌, subst}
use mathlib.Core.Bool.{Bool, true, false, cond}
use mathlib.Core.List.{List, [], ◌∷◌, ◌++◌, append-nil}
use Prim.Native.Nat.{ℕ, suc, ◌+◌, ◌-◌, ◌*◌, ◌≤◌, ◌<◌}
use native.Mathlib.Nat.{zero-add}
use native.Mathlib.Decide.{ℕ_discrete}
use native.Mathlib.Numerals.{add-one}
use native.Mathlib.Omega.{arith}
use borrow.Author.Tests.{eq-eqb, ne_eqb}
use lib.ListN.{length, get_or, take, replicate, length-append, length-replicate}
use lib.Seq.{take_all}
use Rattle.codeword.specs.Code.{changes}
use Rattle.listing.specs.Listed.{Change, listed, flat, listing, fitting, Lists}
use Rattle.listing.specs.Listed.Exact.{length-listed}
use Rattle.listing.specs.Listed.Made.{length-flat}
use Rattle.listing.specs.Inner.Note.{Notes}
use Rattle.listing.proofs.Noting.{later, listed_suc, put}

-- ---- the loop

-- the changes among the first i bytes are listed, n of them, and zeros are behind
pub record Grown (a b : List ℕ) (n i : ℕ) (list : List ℕ) : Type 0 where
  pub upto : i ≤ 2352
  pub few : n ≤ i
  pub count : n ≡ length (listed 0 (take i a) (take i b))
  pub is : list ≡ flat (listed 0 (take i a) (take i b)) ++ replicate (9408 - 4 * n) 0

pub grown-none : (a b list : List ℕ) → list ≡ replicate 9408 0 → Grown a b 0 0 list
unfolding listed flat
grown-none a b list e = record { upto = omega arith; few = omega arith; count = refl; is = e }

pub grown_long : {a b list : List ℕ} {n i : ℕ} → Grown a b n i list → length list ≡ 9408
grown_long {a} {b} {list} {n} {i} g =
    omega (
      arith,
      ap length g.is,
      length-append (flat (listed 0 (take i a) (take i b))) (replicate (9408 - 4 * n) 0),
      length-flat (listed 0 (take i a) (take i b)),
      length-replicate {A = ℕ} (9408 - 4 * n) 0,
      g.count,
      g.few,
      g.upto,
    )

module _ {a b list : List ℕ} {n i : ℕ} (la : length a ≡ 2352) (lb : length b ≡ 2352) (g : Grown a b n i list) where
  pub grown_more : i < 2352 → (r : ℕ) (new : List ℕ) → Notes n i (get_or a i 0) (get_or b i 0) list r new → Grown a b r (i + 1) new
  unfolding later
  grown_more h r new m = subst (λ (j : ℕ). Grown a b r j new) (sym (add-one i)) (go (ℕ_discrete (get_or a i 0) (get_or b i 0)))
    where
      step : listed 0 (take (suc i) a) (take (suc i) b) ≡ listed 0 (take i a) (take i b) ++ later 0 i (get_or a i 0) (get_or b i 0)
      step = listed_suc 0 a b i (omega arith) (omega arith)

      go : Dec (get_or a i 0 ≡ get_or b i 0) → Grown a b r (suc i) new
      go (yes e) =
          let stays : listed 0 (take (suc i) a) (take (suc i) b) ≡ listed 0 (take i a) (take i b) =
          step ∙ ap (λ (t : Bool). listed 0 (take i a) (take i b) ++ cond t [] (record { at = 0 + i; was = get_or a i 0; is = get_or b i 0 } ∷ [])) (eq-eqb _ _ e)
          ∙ append-nil (listed 0 (take i a) (take i b)) in
          let same = m.same e in
          record {
            upto = omega arith;
            few = omega (arith, same.0, g.few);
            count = same.0 ∙ g.count ∙ ap length (sym stays);
            is = same.1 ∙ g.is ∙ ap₂ (λ (l : List Change) (k : ℕ). flat l ++ replicate (9408 - 4 * k) 0) (sym stays) (sym same.0);
          }
      go (no d) =
          let more : listed 0 (take (suc i) a) (take (suc i) b) ≡ listed 0 (take i a) (take i b) ++ (record { at = i; was = get_or a i 0; is = get_or b i 0 } ∷ []) =
          step ∙ ap (λ (t : Bool). listed 0 (take i a) (take i b) ++ cond t [] (record { at = 0 + i; was = get_or a i 0; is = get_or b i 0 } ∷ [])) (ne_eqb _ _ d)
          ∙ ap (λ (k : ℕ). listed 0 (take i a) (take i b) ++ (record { at = k; was = get_or a i 0; is = get_or b i 0 } ∷ [])) (zero-add i) in
          let other = m.other d in
          record {
            upto = omega arith;
            few = omega (arith, other.0, g.few);
            count =
                other.0 ∙ ap (λ (k : ℕ). k + 1) g.count
                ∙ sym (ap length more ∙ length-append (listed 0 (take i a) (take i b)) (record { at = i; was = get_or a i 0; is = get_or b i 0 } ∷ []));
            is =
                other.1
                ∙ put (listed 0 (take i a) (take i b)) (record { at = i; was = get_or a i 0; is = get_or b i 0 }) n list g.count (omega (arith, g.few)) g.is
                ∙ ap₂ (λ (l : List Change) (k : ℕ). flat l ++ replicate (9408 - 4 * k) 0) (sym more) (sym other.0);
          }

  pub grown_all : 2352 ≤ i → (n ≡ changes a b) × (list ≡ listing a b)
  unfolding listing
  grown_all h =
      let ta : take i a ≡ a = take_all i a (omega arith) in
      let tb : take i b ≡ b = take_all i b (omega arith) in
      let all : listed 0 (take i a) (take i b) ≡ listed 0 a b = ap₂ (listed 0) ta tb in
      let count : n ≡ changes a b = g.count ∙ ap length all ∙ length-listed 0 a b in
      (count, g.is ∙ ap₂ (λ (l : List Change) (k : ℕ). flat l ++ replicate (9408 - 4 * k) 0) all count)

-- ---- the ways out of listing

module _ (r s old : List ℕ) where
  nothing : fitting r s old ≡ false → Lists r s old 0 old
  nothing e =
      record { count = sym (ap (λ (t : Bool). cond t (changes r s) 0) e); list = sym (ap (λ (t : Bool). cond t (listing r s) old) e) }

  pub on_before : (length r ≡ 2352 → ⊥) → Lists r s old 0 old
  on_before n = nothing (simp (ne_eqb (length r) 2352 n))

  pub on_after : length r ≡ 2352 → (length s ≡ 2352 → ⊥) → Lists r s old 0 old
  on_after l n = nothing (simp (eq-eqb (length r) 2352 l, ne_eqb (length s) 2352 n))

  pub on_room : length r ≡ 2352 → length s ≡ 2352 → (length old ≡ 9408 → ⊥) → Lists r s old 0 old
  on_room l k n = nothing (simp (eq-eqb (length r) 2352 l, eq-eqb (length s) 2352 k, ne_eqb (length old) 9408 n))

  pub on_listed : length r ≡ 2352 → length s ≡ 2352 → length old ≡ 9408 → (n : ℕ) (new : List ℕ) → (n ≡ changes r s) × (new ≡ listing r s) → Lists r s old n new
  on_listed l k m n new g =
      let e : fitting r s old ≡ true = simp (eq-eqb (length r) 2352 l, eq-eqb (length s) 2352 k, eq-eqb (length old) 9408 m) in
      record {
        count = g.0 ∙ sym (ap (λ (t : Bool). cond t (changes r s) 0) e);
        list = g.1 ∙ sym (ap (λ (t : Bool). cond t (listing r s) old) e);
      }

pub ruleset ways = (on_before, on_after, on_room)
