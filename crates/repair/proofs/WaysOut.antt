-- The ways out of repair, each with what leads to it: the order 1, 2, 5.
-- Assumes nothing.
use mathlib.Core.Path.{◌≡◌, refl, sym, ap, ◌∙◌, subst}
use mathlib.Core.Bool.{Bool, true, false, not, cond, ◌&&◌, false≢true}
use mathlib.Core.List.{List, [], ◌∷◌}
use Prim.Native.Nat.{ℕ}
use borrow.Author.Tests.{eq-eqb, not-true, not-false}
use lib.ListN.{length, replicate}
use Rattle.outcome.specs.Bytes.{Bytes}
use Rattle.outcome.specs.Say.{done, refused, cleared}
use Rattle.outcome.specs.Say.Refusals.{cleared-right, cleared-wrong}
use Rattle.candidates.specs.Candidate.{Made, FoundFor, Candidate}
use Rattle.candidates.specs.Candidate.Mended.{made_candidate, not_all}
use Rattle.mode01_rules.specs.Rules.{rules, Tests}
use Rattle.handing_out.specs.HandedOut.{HandsOut}
use Rattle.repair.specs.Repair.{Sought, Repairs, wrong_incoming, wrong-outgoing, none-near, handed_out}
use Rattle.repair.specs.Repair.One.{sought_near}
use Rattle.repair.proofs.Candidates.{candidate_sought, candidate_alone}

module _ (r old new : List ℕ) where
  leaves : (n : ℕ) → new ≡ cleared 2352 old → Repairs r old (refused n []) (cleared 2352 old) → Repairs r old (refused n []) new
  leaves n e h = subst (λ (x : List ℕ). Repairs r old (refused n []) x) (sym e) h

  pub on_incoming : (length r ≡ 2352 → ⊥) → new ≡ cleared 2352 old → Repairs r old (refused 1 []) new
  on_incoming n z = leaves 1 z (wrong_incoming n)

  pub on_outgoing : length r ≡ 2352 → (length old ≡ 2352 → ⊥) → new ≡ old → Repairs r old (refused 2 []) new
  on_outgoing l n z = leaves 2 (z ∙ sym (cleared-wrong 2352 old n)) (wrong-outgoing l n)

  module _ (bytes : Bytes r) (lr : length r ≡ 2352) (lo : length old ≡ 2352) (near : Bool) (b s : List ℕ) (f : FoundFor r b near s) where
    made : Made r s
    made = (f.sector lr).1

    candidate : near ≡ true → Candidate r s
    candidate e = made_candidate r bytes s made (sym (f.sector lr).0 ∙ e)

    module _ (right : Bool) (test : Tests s right) where
      g : right ≡ rules s
      g = test.sector made.tried.long

      pub on_none : not (near && right) ≡ true → new ≡ replicate (length old) 0 → Repairs r old (refused 5 []) new
      on_none n z =
          leaves 5 (z ∙ ap (λ (k : ℕ). replicate k 0) lo ∙ sym (cleared-right 2352 old lo))
          (none-near lr lo (by near refl (not-true (near && right) n)))
        where
          by : (b : Bool) → near ≡ b → b && right ≡ false → (t : List ℕ) → Sought r t → ⊥
          by true e n = candidate_alone r s (candidate e) (sym g ∙ n)
          by false e n = λ t h. not_all r bytes (sym (f.sector lr).0 ∙ e) t (sought_near r t h)

      pub on_found : not (near && right) ≡ false → (n : ℕ) → HandsOut r s old n new → Repairs r old (done (n ∷ [])) new
      on_found m n h = by near refl (not-false (near && right) m)
        where
          gives : new ≡ s
          gives = h.gives ∙ ap (λ (b : Bool). cond b s old) (eq-eqb (length s) (length old) (made.tried.long ∙ sym lo))

          by : (b : Bool) → near ≡ b → b && right ≡ true → Repairs r old (done (n ∷ [])) new
          by true q m =
              subst (λ (x : List ℕ). Repairs r old (done (n ∷ [])) x) (sym gives)
              (subst (λ (k : ℕ). Repairs r old (done (k ∷ [])) s) (sym h.counts)
              (handed_out lr lo (candidate_sought r s (candidate q) (sym g ∙ m))))
          by false q m = absurd (false≢true m)

pub ruleset ways = (on_incoming, on_outgoing)
