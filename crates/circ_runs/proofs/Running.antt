-- A run of calls as a loop: what the whole run leaves is what the loop has left so far, and behind it what the rest of the run leaves.
-- Assumes nothing.
use mathlib.Core.Path.{◌≡◌, refl, sym, ap, ap₂, ◌∙◌, subst}
use mathlib.Core.List.{List, [], ◌∷◌, ◌++◌, append_assoc}
use Prim.Native.Nat.{ℕ, ◌+◌, ◌-◌, ◌≤◌, ◌<◌, min}
use native.Mathlib.Omega.{arith}
use lib.ListN.{length, get_or, take, drop, length-drop, take-append-drop}
use borrow.Rule.Slice.PartMut.{put_mid}
use Rattle.outcome.specs.Buffer.Part.{part-back}
use Rattle.calls.specs.Step.{Step}
use Rattle.calls.specs.Calls.{run}
use Rattle.circ.specs.Rings.{Rings}
use Rattle.circ_runs.specs.Runs.{Call, call, lent, Left, left, unlent, two_bytes, before, in_front, runs}
use Rattle.circ_runs.specs.Inner.Coding.{Leaves}
use Rattle.circ_runs.proofs.Lent.{lent-part, lent_rest, lent-from, lent_in_lem, drop-two, take-replaced, drop-replaced, length-replaced}

-- one thing behind another and a third is one behind two
before-before : (a b c d : List ℕ) (r : Left) → before a b (before c d r) ≡ before (a ++ c) (b ++ d) r
before-before a b c d r = ap₂ left (sym (append_assoc a c r.answers)) (sym (append_assoc b d r.out))

module _ (does : Rings → Call → Step Rings) where
  pub record Running (state₀ : Rings) (incoming lengths out₀ : List ℕ) (state : Rings) (k from to : ℕ) (answers out : List ℕ) : Type 0 where
    pub all : runs does state₀ lengths incoming out₀ ≡ before (take k answers) (take to out) (runs does state (drop k answers) (drop from incoming) (drop to out))
    pub as_many : length answers ≡ length lengths
    pub as_long : length out ≡ length out₀
    pub k_in : k ≤ length answers
    pub from_in : from ≤ length incoming
    pub to_in : to ≤ length out

  pub running_none : (state₀ : Rings) (incoming lengths out : List ℕ) (state : Rings) → state ≡ state₀ → Running state₀ incoming lengths out state 0 0 0 lengths out
  running_none state₀ incoming lengths out state e =
      record { all = ap (λ (s : Rings). runs does s lengths incoming out) (sym e); as_many = refl; as_long = refl; k_in = omega arith; from_in = omega arith; to_in = omega arith }

  -- the same by another name of the place among the answers
  pub running_at : {state₀ : Rings} {incoming lengths out₀ : List ℕ} {state : Rings} {k n from to : ℕ} {answers out : List ℕ} → k ≡ n
      → Running state₀ incoming lengths out₀ state k from to answers out → Running state₀ incoming lengths out₀ state n from to answers out
  running_at {state₀} {incoming} {lengths} {out₀} {state} {from = from} {to} {answers} {out} e f =
      subst (λ (m : ℕ). Running state₀ incoming lengths out₀ state m from to answers out) e f

  -- where a single length is left, or none, the run is over
  over : (state : Rings) (lengths incoming out : List ℕ) → length lengths < 2 → runs does state lengths incoming out ≡ left lengths out
  unfolding run lent unlent in_front
  over state [] incoming out h = refl
  over state (i ∷ []) incoming out h = refl
  over state (i ∷ o ∷ lengths) incoming out h = absurd (omega arith)

  pub running_all : {state₀ : Rings} {incoming lengths out₀ : List ℕ} {state : Rings} {k from to : ℕ} {answers out : List ℕ} → Running state₀ incoming lengths out₀ state k from to answers out
      → length answers - k < 2 → left answers out ≡ runs does state₀ lengths incoming out₀
  running_all {incoming = incoming} {state = state} {k} {from} {to} {answers} {out} f h =
      sym
      (f.all
      ∙ ap (before (take k answers) (take to out)) (over state (drop k answers) (drop from incoming) (drop to out) (omega (arith, length-drop k answers)))
      ∙ ap₂ left (take-append-drop k answers) (take-append-drop to out))

  -- a call that is lent a and b, and the run behind it over what is left
  abbrev called : Rings → List ℕ → List ℕ → List ℕ → List ℕ → List ℕ → Left
  called state lengths a b incoming out =
      before (two_bytes (does state (call a b)).say) (does state (call a b)).out (runs does (does state (call a b)).next lengths incoming out)

  runs-first : (state : Rings) (lengths incoming out : List ℕ) (i o : ℕ)
      → runs does state (i ∷ o ∷ lengths) incoming out ≡ called state lengths (take i incoming) (take o out) (drop i incoming) (drop o out)
  unfolding run lent unlent in_front
  runs-first state lengths incoming out i o = refl

  -- one call more, with what it was lent and what it leaves
  pub running_more : {state₀ : Rings} {incoming lengths out₀ : List ℕ} {state : Rings} {k from to : ℕ} {answers out : List ℕ} → Running state₀ incoming lengths out₀ state k from to answers out
      → (from_end to_end : ℕ) (next : Rings) (pair part : List ℕ) → 2 ≤ length answers - k
      → from_end ≡ from + min (get_or answers k 0) (length incoming - from)
      → to_end ≡ to + min (get_or answers (k + 1) 0) (length out - to)
      → Leaves does state (call (take (from_end - from) (drop from incoming)) (take (to_end - to) (drop to out))) next pair part
      → length part ≡ to_end - to
      → Running state₀ incoming lengths out₀ next (k + 2) from_end to_end (put_mid k (k + 2 - k) answers pair) (put_mid to (to_end - to) out part)
  running_more {state₀} {incoming} {lengths} {out₀} {state} {k} {from} {to} {answers} {out} f from_end to_end next pair part h ef et g l =
      subst (λ (a : List ℕ). Running state₀ incoming lengths out₀ next (k + 2) from_end to_end a (put_mid to (to_end - to) out part))
      (sym (part-back k (k + 2) answers pair (omega arith)))
      (subst (Running state₀ incoming lengths out₀ next (k + 2) from_end to_end (take k answers ++ (pair ++ drop (k + 2) answers)))
      (sym (part-back to to_end out part lo))
      (record {
        all =
            f.all
            ∙ ap (before (take k answers) (take to out)) turn
            ∙ before-before (take k answers) (take to out) pair part _
            ∙ ap₂ (λ (a b : List ℕ). before a b (runs does next (drop (k + 2) answers) (drop from_end incoming) (drop to_end out)))
            (sym (take-replaced k (k + 2) answers pair (omega arith) lk two))
            (sym (take-replaced to to_end out part lo li l))
            ∙ ap₂ (λ (a b : List ℕ). before (take (k + 2) answers') (take to_end out') (runs does next a (drop from_end incoming) b))
            (sym (drop-replaced k (k + 2) answers pair (omega arith) lk two))
            (sym (drop-replaced to to_end out part lo li l));
        as_many = length-replaced k (k + 2) answers pair (omega arith) lk two ∙ f.as_many;
        as_long = length-replaced to to_end out part lo li l ∙ f.as_long;
        k_in = omega (arith, length-replaced k (k + 2) answers pair (omega arith) lk two);
        from_in = lent_in_lem (get_or answers k 0) from from_end incoming f.from_in ef;
        to_in = omega (arith, length-replaced to to_end out part lo li l, li);
      }))
    where
      answers' : List ℕ
      answers' = take k answers ++ (pair ++ drop (k + 2) answers)

      out' : List ℕ
      out' = take to out ++ (part ++ drop to_end out)

      lk : k + 2 ≤ length answers
      lk = omega arith

      lo : to ≤ to_end
      lo = lent-from (get_or answers (k + 1) 0) to to_end out f.to_in et

      li : to_end ≤ length out
      li = lent_in_lem (get_or answers (k + 1) 0) to to_end out f.to_in et

      two : length pair ≡ k + 2 - k
      two = ap length g.has_answer ∙ omega arith

      rest : List ℕ
      rest = drop (k + 2) answers

      made : Step Rings
      made = does state (call (take (from_end - from) (drop from incoming)) (take (to_end - to) (drop to out)))

      turn : runs does state (drop k answers) (drop from incoming) (drop to out)
          ≡ before pair part (runs does next (drop (k + 2) answers) (drop from_end incoming) (drop to_end out))
      turn =
          ap (λ (w : List ℕ). runs does state w (drop from incoming) (drop to out)) (drop-two answers k lk)
          ∙ runs-first state rest (drop from incoming) (drop to out) (get_or answers k 0) (get_or answers (k + 1) 0)
          ∙ ap₂ (λ (a b : List ℕ). called state rest a b (drop (get_or answers k 0) (drop from incoming)) (drop (get_or answers (k + 1) 0) (drop to out)))
          (lent-part (get_or answers k 0) from from_end incoming f.from_in ef)
          (lent-part (get_or answers (k + 1) 0) to to_end out f.to_in et)
          ∙ ap₂ (λ (a b : List ℕ). called state rest (take (from_end - from) (drop from incoming)) (take (to_end - to) (drop to out)) a b)
          (lent_rest (get_or answers k 0) from from_end incoming f.from_in ef)
          (lent_rest (get_or answers (k + 1) 0) to to_end out f.to_in et)
          ∙ ap₂ (λ (a b : List ℕ). before a b (runs does made.next rest (drop from_end incoming) (drop to_end out)))
          (sym g.has_answer) (sym g.has_out)
          ∙ ap (λ (s : Rings). before pair part (runs does s rest (drop from_end incoming) (drop to_end out))) (sym g.has_next_lem)
